use Rattle.std.proofs.Common.{◌≡◌, ◌≤◌, ◌+◌, ◌∙◌, ap, arith, ℕ, List, ◌++◌, length, length-append}
use Rattle.std.specs.Prelude.{Result, Ok, Err, OnOk, if◌then◌else◌, is_ok}
use Rattle.gtd_core.specs.Parts.{domain_tree}
use Rattle.gtd_text.specs.Canonical.{canonical}
use Rattle.gtd_migrate.proofs.LineFacts.{domain_short}
use Rattle.gtd_migrate.proofs.line.push_domain.Goals as goal

-- what a short text makes longer
longer : {E : Type 0} (r : Result (Unit {0}) E) (old text new : List ℕ) (n : ℕ) → length text ≤ n
    → new ≡ (if is_ok r then old ++ text else old) → OnOk r (length new ≤ length old + n)
longer (Ok x) old text new n few e = let all = ap length e ∙ length-append old text in omega arith
longer (Err x) old text new n few e = tt

pub returns-in_ok-print_domain-in-Some-clause-short :
    goal.returns-in_ok-print_domain-in-Some-clause-short
returns-in_ok-print_domain-in-Some-clause-short c =
    let is : c.as_bytes.result.now ≡ canonical (domain_tree c.in-Some.domain.now) =
    c.as_bytes.ensures.value ∙ c.in_ok-print_domain-in-Some.ensures.exact in
    let few = domain_short c.in-Some.domain.now in
    let same = ap length is in
    longer c.extend_from_slice.result c.args.line.now.items c.as_bytes.result.now c.extend_from_slice.new.self.items 12925
    (omega arith) c.extend_from_slice.ensures.items
