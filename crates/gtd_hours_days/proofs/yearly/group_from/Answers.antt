-- A run of at most 366 days that does not begin on 29 February is a group; a longer one, or one that does, is none.
use Rattle.std.proofs.Common.{rules, inl, inr, FitsSigned, w64, to_z-of_z, pos, ◌+ℤ◌}
use Rattle.std.proofs.lemmas.Int.{by_lt_z}
use Rattle.gtd_calendar.specs.facts.DateLemmas.{date_of-is}
use Rattle.gtd_hours_days.proofs.DateFacts.{no_leap_day}
use Rattle.gtd_hours_days.proofs.YearlyFacts.{no_group}
use Rattle.gtd_hours_days.proofs.yearly.group_from.Goals as goal

pub returns-then-is_long : goal.returns-then-is_long
returns-then-is_long c =
    no_group c.args.run _ _ _ (date_of-is c.args.run.first) (inl (c.is_long.ensures.0 c.if-is_long.true))

pub returns-then-is_leap_day : goal.returns-then-is_leap_day
returns-then-is_leap_day c =
    let fits : FitsSigned w64 c.args.run.first = search rules in
    no_group c.args.run _ _ _ (rw (to_z-of_z fits) at c.fields-date.ensures.date)
    (inr (c.is_leap_day.ensures.0 c.if-is_leap_day.true))

pub invariant_of-result : goal.invariant_of-result
invariant_of-result c = record {
  in_range = (
    no_leap_day c.fields-date.result.year _ _ c.fields-date.ensures.date.0 (λ leap. let yes = c.is_leap_day.ensures.1 leap in cc),
    c.count.ensures.some,
    c.count.ensures.few,
  );
}

pub count-requires : goal.count-requires
count-requires c =
    by_lt_z c.args.run.last (c.args.run.first +ℤ pos 366) (λ lt. lt) (λ ge. let yes = c.is_long.ensures.1 ge in cc)

pub returns : goal.returns
returns c =
    let fits : FitsSigned w64 c.args.run.first = search rules in
    ((c.fields-date.result.year, (rw (to_z-of_z fits) at c.fields-date.ensures.date)), c.count.ensures.value)
