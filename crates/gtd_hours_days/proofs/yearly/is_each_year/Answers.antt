-- The group's days of each year so far are in the set, so behind the last year those of all are.
use Rattle.std.proofs.Common.{arith, refl, inl, inr}
use Rattle.std.proofs.lemmas.Bool.{cases_eq}
use Rattle.gtd_hours_days.proofs.YearlyFacts.{all_years}
use Rattle.gtd_hours_days.proofs.yearly.is_each_year.Goals as goal

pub loop-year-preserved : goal.loop-year-preserved
loop-year-preserved c = λ year low high. elim (cases_eq year c.loop-year.year) [
  | inl e ↦ rw e (c.is_in_year.ensures.0 c.if-not-is_in_year.false)
  | inr other ↦ c.loop-year.invariant year low (omega (arith, high, other))
]

pub returns : goal.returns
returns c = (
  (λ yes. all_years c.args.days.now c.args.years c.args.group
      (λ year low high. c.loop-year.invariant year low (omega (arith, high, c.loop-year-test.false)))),
  (λ each. refl),
)
