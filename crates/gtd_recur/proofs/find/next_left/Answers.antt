-- A wrong weekday excludes one day; a wrong week or day of the month excludes all days up to the next chance.
use Rattle.std.proofs.Common.{arith, rules, to_z-of_z}
use Rattle.gtd_calendar.specs.facts.Signed.{signed_arith}
use Rattle.gtd_calendar.specs.Calendar.{weekday_of}
use Rattle.gtd_recur.specs.Jumps.{weekday_fits}
use Rattle.gtd_recur.proofs.FindLemmas.{off-weekday}
use Rattle.gtd_recur.proofs.SearchLemmas.{tested, missed-next, missed-up_to}
use Rattle.gtd_recur.proofs.SmallLemmas.{small-day}
use Rattle.gtd_recur.proofs.find.next_left.Goals as goal

pub returns-then-not-weekday_fits : goal.returns-then-not-weekday_fits
returns-then-not-weekday_fits c =
    let day = small-day c.args.day (omega (arith, signed_arith, c.requires.day_in))
    (omega (arith, signed_arith, c.requires.order, c.requires.end_in)) in
    rw (day.is, day.after) (record {
      missed = missed-next c.args.start.now c.args.day c.args.end (off-weekday c.args.start.now c.args.day
          (tested weekday_of (weekday_fits c.args.start.now) c.args.day _ _ _ c.ranges.day c.weekday.ensures.value
          c.weekday_fits.ensures c.if-not-weekday_fits.true));
    })

pub returns-in-None : goal.returns-in-None
returns-in-None c = record { missed = rw (to_z-of_z c.ranges.day) at c.in-None.ensures.fields }

pub returns-in-Some-week : goal.returns-in-Some-week
returns-in-Some-week c =
    let off = rw (to_z-of_z c.ranges.day) at c.in-Some.ensures.fields.1 in
    record {
      missed = missed-up_to c.args.start.now _ _ c.next_in_week.result c.ranges.day (search rules) off
          c.next_in_week.ensures.later (rw (to_z-of_z c.ranges.end) at c.next_in_week.ensures.none);
    }

pub returns-in-None-week : goal.returns-in-None-week
returns-in-None-week c =
    let off = rw (to_z-of_z c.ranges.day) at c.in-Some.ensures.fields.1 in
    record {
      missed = missed-up_to c.args.start.now _ _ c.next_in_month.result c.ranges.day (search rules) off
          c.next_in_month.ensures.later (λ n gt lt less. c.next_in_month.ensures.none n gt lt);
    }
