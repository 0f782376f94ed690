-- The lines of the codes so far are followed by those of the next, if one row alone names it.
use Rattle.std.proofs.Common.{◌≡◌, ◌∙◌, arith, get_or}
use Rattle.std.proofs.lemmas.List.{get_or_default}
use Rattle.std.specs.Prelude.{string_bytes}
use Rattle.gtd_faults.specs.declared.codes.Naming.TheVariants as naming
use Rattle.gtd_faults.proofs.NamingFacts.{naming_lone, none_lone}
use Rattle.gtd_faults.proofs.codes.push_all_lone.Goals as goal

pub loop-naming-init : goal.loop-naming-init
loop-naming-init c = λ path bytes named kept. none_lone path bytes named (string_bytes c.args.text.now)

pub loop-naming-preserved : goal.loop-naming-preserved
loop-naming-preserved c = λ path bytes named kept.
    let code = c.loop-naming.naming-index in
    let here = c.naming-item.result in
    let all = kept.0 in
    let is : here ≡ get_or c.args.by_code.now code naming.Never =
    c.naming-item.is ∙ get_or_default c.args.by_code.now code here naming.Never (omega arith) in
    rw (c.in_ok-push_lines.ensures) (naming_lone path bytes named code here (string_bytes c.args.text.now)
    (string_bytes c.loop-naming.text) (c.loop-naming.invariant path bytes named kept)
    (rw is (kept.1 code (omega (arith, all)))))

pub returns : goal.returns
returns c = λ path bytes named kept.
    let all : c.loop-naming.naming-index ≡ 100 = (let n = kept.0 in omega (arith, n)) in
    rw all at (c.loop-naming.invariant path bytes named kept)
