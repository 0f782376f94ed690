-- The runs of a set of days.
use Rattle.std.proofs.Common.{◌≡◌, sym, subst, arith, ◌++◌, List, [], ◌∷◌, append_assoc, ℤ, pos, ◌+ℤ◌, ◌-ℤ◌, ◌≤ℤ◌, ◌<ℤ◌}
use Rattle.std.proofs.lemmas.Int.{by_lt_z}
use Rattle.std.proofs.lemmas.List.{append-nil}
use Rattle.gtd_core.specs.Limits.{first_calendar_day, last_calendar_day}
use Rattle.gtd_calendar.specs.Calendar.{IsCalendarDay}
use Rattle.gtd_calendar.specs.facts.Signed.{signed_arith}
use Rattle.gtd_hours_holidays.specs.Days.{AreAll, AreNone, IsFirst, IsFirstWithout, IsIn}
use Rattle.gtd_hours_holidays.specs.Runs.{AreRuns, IsNextRun, IsRunEnd}
use Rattle.gtd_hours_holidays.specs.declared.days.Days.{Days}
use Rattle.gtd_hours_holidays.specs.declared.run.Run.{Run}

-- all days up to the last are in the set
pub end_of_all : (days : Days) (first : ℤ) → IsCalendarDay first → AreAll (IsIn days) first last_calendar_day
    → IsRunEnd days first last_calendar_day
end_of_all days first first_in all = record {
  day = (omega (arith, signed_arith), omega (arith, signed_arith));
  order = first_in.1;
  each = all;
  ends = λ h. let high = h.0.1 in omega (arith, signed_arith, high);
}

-- the first day that is missing comes after one that is in the set
pub comes_after : (days : Days) (first after : ℤ) → IsIn days first
    → IsFirstWithout (IsIn days) first last_calendar_day after → first <ℤ after
comes_after days first after in_set missing =
    by_lt_z first after (λ lt. lt)
    (λ ge. let low = missing.after in
    let e : first ≡ after = omega (arith, signed_arith, ge, low) in
    absurd (missing.fails (subst (IsIn days) e in_set)))

pub missing_late : (days : Days) (first after : ℤ) → IsCalendarDay first → IsIn days first
    → IsFirstWithout (IsIn days) first last_calendar_day after → (first_calendar_day <ℤ after) × (after ≤ℤ last_calendar_day)
missing_late days first after first_in in_set missing =
    let lt = comes_after days first after in_set missing in
    let low = first_in.0 in
    (omega (arith, signed_arith, lt, low), missing.before)

-- and so the run ends on the day before it
pub end_before : (days : Days) (first after last : ℤ) → IsIn days first
    → IsFirstWithout (IsIn days) first last_calendar_day after → last ≡ after -ℤ pos 1 → IsCalendarDay last
    → IsRunEnd days first last
end_before days first after last in_set missing e day = record {
  day = day;
  order = let lt = comes_after days first after in_set missing in omega (arith, signed_arith, lt, e);
  each = λ n low high. missing.earlier n low (omega (arith, signed_arith, e, high));
  ends = λ h.
      let same : last +ℤ pos 1 ≡ after = omega (arith, signed_arith, e) in
      missing.fails (subst (IsIn days) same h);
}

pub next_is : (days : Days) (from first : ℤ) (run : Run) → IsFirst (IsIn days) from last_calendar_day first → run.first ≡ first
    → IsRunEnd days first run.last → IsNextRun days from run
next_is days from first run is e ends = record {
  first = rw e is;
  last = rw e ends;
}

-- with the runs from a day on, the runs so far are all
abbrev pub AreJoined : Days → ℤ → List Run → Type 0
AreJoined days from runs = (rest : List Run) → AreRuns days from rest → AreRuns days first_calendar_day (runs ++ rest)

pub joined_more : (days : Days) (from : ℤ) (runs : List Run) (run : Run) → AreJoined days from runs → IsNextRun days from run
    → AreJoined days (run.last +ℤ pos 1) (runs ++ run ∷ [])
joined_more days from runs run joins next rest are =
    subst (AreRuns days first_calendar_day) (sym (append_assoc runs (run ∷ []) rest)) (joins (run ∷ rest) (next, are))

pub all_joined : (days : Days) (from : ℤ) (runs : List Run) → AreJoined days from runs
    → AreNone (IsIn days) from last_calendar_day
    → AreRuns days first_calendar_day runs
all_joined days from runs joins none =
    subst (AreRuns days first_calendar_day) (append-nil runs) (joins [] none)

-- after the last day there is none
pub none_left : (days : Days) (from : ℤ) → last_calendar_day <ℤ from → AreNone (IsIn days) from last_calendar_day
none_left days from late n low high h = omega (arith, signed_arith, late, low, high)
