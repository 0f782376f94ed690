-- A wrong weekday excludes one day; a wrong week or day of the month excludes all days back to the last chance.
use Rattle.std.proofs.Common.{◌∙◌, arith, rules, to_z-of_z}
use Rattle.std.proofs.lemmas.Bool.{and_parts}
use Rattle.gtd_calendar.specs.facts.Signed.{signed_arith}
use Rattle.gtd_calendar.specs.Calendar.{weekday_of}
use Rattle.gtd_calendar.specs.ComputedFields.{day_fields}
use Rattle.gtd_recur.specs.Jumps.{weekday_fits}
use Rattle.gtd_recur.specs.facts.WeekLemmas.{date-free}
use Rattle.gtd_recur.proofs.FindLemmas.{off-weekday}
use Rattle.gtd_recur.proofs.SearchLemmas.{tested, missed-before, missed-down_to}
use Rattle.gtd_recur.proofs.SmallLemmas.{small-day}
use Rattle.gtd_recur.proofs.find.last_left.Goals as goal

pub returns-then-not-weekday_fits : goal.returns-then-not-weekday_fits
returns-then-not-weekday_fits c =
    let off = tested weekday_of (weekday_fits c.args.start.now) c.args.day _ _ _ c.ranges.day c.weekday.ensures.value
    c.weekday_fits.ensures c.if-not-weekday_fits.true in
    let day = small-day c.args.day (omega (arith, signed_arith, c.requires.low_in, c.requires.order))
    (omega (arith, signed_arith, c.requires.day_in)) in
    rw (day.is, day.before) (record { missed = missed-before c.args.start.now _ _ (off-weekday c.args.start.now c.args.day off) })

pub returns-then-asks_no_date : goal.returns-then-asks_no_date
returns-then-asks_no_date c =
    let fits = tested weekday_of (weekday_fits c.args.start.now) c.args.day _ _ _ c.ranges.day c.weekday.ensures.value
    c.weekday_fits.ensures c.if-not-weekday_fits.false in
    let asks = c.asks_no_date.ensures.0 c.if-asks_no_date.true in
    record { missed = date-free c.args.start.now (day_fields c.args.day) asks ∙ (and_parts _ _ fits).0 }

pub returns-in-None : goal.returns-in-None
returns-in-None c = record { missed = rw (to_z-of_z c.ranges.day) at c.in-None.ensures.fields }

pub returns-in-Some-week : goal.returns-in-Some-week
returns-in-Some-week c = record {
  missed = missed-down_to c.args.start.now _ _ c.last_in_week.result c.ranges.day (search rules)
      (rw (to_z-of_z c.ranges.day) at c.in-Some.ensures.fields.1)
      c.last_in_week.ensures.earlier (rw (to_z-of_z c.ranges.low) at c.last_in_week.ensures.none);
}

pub returns-in-None-week : goal.returns-in-None-week
returns-in-None-week c = record {
  missed = missed-down_to c.args.start.now _ _ c.last_in_month.result c.ranges.day (search rules)
      (rw (to_z-of_z c.ranges.day) at c.in-Some.ensures.fields.1)
      c.last_in_month.ensures.earlier (λ n from gt lt. c.last_in_month.ensures.none n gt lt);
}
