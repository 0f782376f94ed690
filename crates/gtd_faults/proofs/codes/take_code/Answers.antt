-- What is kept of a code once a row names it: of one of those that are kept, or of one beyond them.
use Rattle.std.proofs.Common.{◌≡◌, ◌∙◌, arith, get_or}
use Rattle.std.proofs.lemmas.List.{get_or_default}
use Rattle.gtd_faults.specs.declared.codes.Naming.TheVariants as naming
use Rattle.gtd_faults.proofs.NamingFacts.{code_beyond, code_kept, code_set}
use Rattle.gtd_faults.proofs.codes.take_code.Goals as goal

pub returns-then-at-len : goal.returns-then-at-len
returns-then-at-len c = λ bytes named codes is number kept.
    code_beyond c.args.path.now bytes named codes c.args.code c.args.by_code.now.items (omega arith) kept

pub returns-in-Some : goal.returns-in-Some
returns-in-Some c = λ bytes named codes is number kept.
    let items = c.args.by_code.now.items in
    let same : c.index.result.now ≡ get_or items c.args.code naming.Never =
    c.index.ensures ∙ get_or_default items c.args.code c.index.result.now naming.Never (omega arith) in
    let all = kept.0 in
    let here = c.in_ok-next.ensures bytes named codes is number (rw same (kept.1 c.args.code (omega (arith, all)))) in
    code_set c.args.path.now bytes named codes c.args.code items c.in-Some.next (omega arith) kept (rw (c.in-Some.is) at here)

pub returns-in-None : goal.returns-in-None
returns-in-None c = λ bytes named codes is number kept.
    let items = c.args.by_code.now.items in
    let same : c.index.result.now ≡ get_or items c.args.code naming.Never =
    c.index.ensures ∙ get_or_default items c.args.code c.index.result.now naming.Never (omega arith) in
    let all = kept.0 in
    let here = c.in_ok-next.ensures bytes named codes is number (rw same (kept.1 c.args.code (omega (arith, all)))) in
    code_kept c.args.path.now bytes named codes c.args.code items kept (rw (c.in-None.is, same) at here)
