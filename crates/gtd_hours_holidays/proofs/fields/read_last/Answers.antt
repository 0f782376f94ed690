-- An empty field is the first day itself; any other is a day that is not before it and at most 36,599 days later.
use Rattle.std.proofs.Common.{◌<◌, ◌≤ℤ◌, ◌+ℤ◌, ℤ, pos, length, arith, rules, subst, FitsSigned, w64, to_z-of_z}
use Rattle.std.proofs.lemmas.Bool.Decides.{nat_tests}
use Rattle.gtd_hours_holidays.proofs.DateFacts.{day_only}
use Rattle.gtd_hours_holidays.proofs.RowFacts.{of_last, some_last}
use Rattle.gtd_hours_holidays.proofs.fields.read_last.Goals as goal

pub returns-in_default-clause-last : goal.returns-in_default-clause-last
returns-in_default-clause-last c = λ n is.
    let some : 0 < length c.args.text.now = grind (arith, nat_tests) in
    c.in_default.ensures.day n (of_last c.args.first c.args.text.now n some is).0

pub returns-then-not-is_near-clause-last : goal.returns-then-not-is_near-clause-last
returns-then-not-is_near-clause-last c = λ n is.
    let some : 0 < length c.args.text.now = grind (arith, nat_tests) in
    let fits : FitsSigned w64 c.in-Some.last = search rules in
    let p = of_last c.args.first c.args.text.now n some is in
    let same = day_only c.args.text.now n c.in-Some.last p.0 c.in-Some.ensures.day in
    let near = rw (to_z-of_z c.ranges.first, to_z-of_z fits) at c.is_near.ensures in
    let yes = near.1 (subst (λ (k : ℤ). (c.args.first ≤ℤ k) × (k ≤ℤ (c.args.first +ℤ pos 36_599))) same (p.1, p.2)) in
    cc

pub returns-clause-last : goal.returns-clause-last
returns-clause-last c =
    let some : 0 < length c.args.text.now = grind (arith, nat_tests) in
    let fits : FitsSigned w64 c.in-Some.last = search rules in
    let near = (rw (to_z-of_z c.ranges.first, to_z-of_z fits) at c.is_near.ensures).0 (search rules) in
    rw (to_z-of_z fits) (some_last c.args.first c.args.text.now c.in-Some.last some c.in-Some.ensures.day near.0 near.1)
