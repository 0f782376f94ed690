-- The bytes that the moments of a line have at first are those of second 0.
use Rattle.std.proofs.Common.{◌≡◌, sym, refl, rules, arith, ap, ℕ, ℤ, pos, ◌+ℤ◌, List, ◌++◌}
use Rattle.std.specs.Prelude.{codes}
use Rattle.gtd_calendar.specs.Calendar.{day_number, days_of_months}
use Rattle.gtd_calendar.specs.ComputedDates.{year_of, month_of, day_of_month}
use Rattle.gtd_calendar.specs.Clock.{second_of_day}
use Rattle.gtd_calendar.specs.Stamp.{stamp_text}
use Rattle.gtd_calendar.specs.facts.DateLemmas.{date_of-only}
use Rattle.gtd_calendar.specs.facts.YearLemmas.{first_day-1970}
use Rattle.gtd_core.specs.Seconds.{day_of_second}
use Rattle.gtd_schedule.specs.Moments.{AreMoments, IsKeptOf, first_second}
use Rattle.gtd_schedule.specs.declared.moment.Shown.{Shown}

first_day : pos 0 ≡ day_number (pos 1970) 1 1
unfolding day_number days_of_months
first_day = sym (ap (λ (n : ℤ). n +ℤ pos 0) first_day-1970)

first_date : (pos 1970 ≡ year_of (pos 0)) × (1 ≡ month_of (pos 0)) × (1 ≡ day_of_month (pos 0))
first_date = date_of-only (pos 0) (pos 1970) 1 1 (((omega arith, omega arith), (omega arith, omega arith)), first_day)

first_clock : second_of_day (pos 0) ≡ 0
unfolding second_of_day
first_clock = refl

day_zero : day_of_second (pos 0) ≡ pos 0
unfolding day_of_second
day_zero = refl

first_begins : pos 0 ≡ first_second (pos 0) 1
unfolding first_second
first_begins = refl

pub first_kept : IsKeptOf (pos 0) record { month = record { begins = pos 0; seconds = 2678400 }; clock = 0; past_hour = 0 }
first_kept = let d = first_date in record {
  day = rw day_zero (search rules);
  month = record { begins = rw (day_zero, ← d.2) first_begins; reached = rw (day_zero, ← d.1) (omega arith) };
  clock = sym first_clock;
  past_hour = rw first_clock refl;
}

first_stamp : stamp_text (pos 0) ≡ codes "1970-01-01T00:00:00"
first_stamp = let d = first_date in rw (day_zero, first_clock, ← d.0, ← d.1, ← d.2) refl

pub first_moments : codes "1970-01-01T00:00:00,1970-01-01T00:00:00\n"
    ≡ stamp_text (pos 0) ++ codes "," ++ stamp_text (pos 0) ++ codes "\n"
first_moments = both (stamp_text (pos 0)) first_stamp
  where
    both : (a : List ℕ) → a ≡ codes "1970-01-01T00:00:00"
        → codes "1970-01-01T00:00:00,1970-01-01T00:00:00\n" ≡ a ++ codes "," ++ a ++ codes "\n"
    both a e = rw e refl

-- what they show
abbrev pub shown_first : Shown
shown_first = record { month = record { begins = pos 0; seconds = 2678400 }; clock = 0; past_hour = 0 }

pub are_first : AreMoments (record { from = shown_first; until = shown_first })
    (codes "1970-01-01T00:00:00,1970-01-01T00:00:00\n")
are_first = record {
  from = pos 0;
  until = pos 0;
  from_kept = first_kept;
  until_kept = first_kept;
  is = first_moments;
}
