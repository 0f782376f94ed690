-- One year more is in order at each turn, up to all.
use Rattle.std.proofs.Common.{arith, refl, inl, inr}
use Rattle.std.proofs.lemmas.Bool.{cases_eq}
use Rattle.gtd_hours_days.proofs.easter_order.are_in_order.Goals as goal

pub loop-year-preserved : goal.loop-year-preserved
loop-year-preserved c = λ y low high. elim (cases_eq y c.loop-year.year) [
  | inl e ↦ rw e (c.is_in_order.ensures.0 c.if-not-is_in_order.false)
  | inr other ↦ c.loop-year.invariant y low (omega (arith, high, other))
]

pub returns : goal.returns
returns c = (
  (λ yes y low high. c.loop-year.invariant y low (omega (arith, high, c.loop-year-test.false))),
  (λ each. refl),
)

pub returns-then-not-is_in_order : goal.returns-then-not-is_in_order
returns-then-not-is_in_order c = (
  (λ no. absurd cc),
  (λ each.
      let low = c.loop-year.auto.year in
      let high = c.loop-year-test.true in
      let yes = c.is_in_order.ensures.1 (each c.loop-year.year (omega (arith, low)) (omega (arith, high))) in
      cc),
)
