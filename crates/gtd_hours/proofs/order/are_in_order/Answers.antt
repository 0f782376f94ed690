use Rattle.std.proofs.Common.{arith, refl, inl, inr}
use Rattle.std.proofs.lemmas.Bool.{cases_eq}
use Rattle.gtd_hours.proofs.YearFacts.{all-years}
use Rattle.gtd_hours.proofs.order.are_in_order.Goals as goal

pub loop-year-preserved : goal.loop-year-preserved
loop-year-preserved c = λ year low high. elim (cases_eq year c.loop-year.year) [
  | inl e ↦ rw e (c.is_in_order.ensures.0 c.if-not-is_in_order.false)
  | inr other ↦ c.loop-year.invariant year low (omega (arith, high, other))
]

pub returns : goal.returns
returns c = (
  (λ yes. all-years c.args.is_over c.args.first c.args.last
      (λ year low high. c.loop-year.invariant year low (omega (arith, high, c.loop-year-test.false)))),
  (λ each. refl),
)
