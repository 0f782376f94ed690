use Rattle.std.proofs.Common.{◌≡◌, ◌-ℤ◌, unsigned_abs}
use Rattle.std.specs.Int.{IsInRange}
use Rattle.gtd_calendar.specs.Calendar.{weekday_of}
use Rattle.gtd_recur.proofs.SearchLemmas.{IsFirstSoFar}
use Rattle.gtd_recur.proofs.find.next_weekday.Given as goal

-- on no day before the one found the start begins, and the weekday is that of the day found
abbrev pub invariant-loop-found : goal.invariant-loop-found
invariant-loop-found l = record {
  first : IsFirstSoFar l.start l.day l.end l.found;
  of_week : l.of_week ≡ weekday_of l.found;
  of_week_in : IsInRange 1 7 l.of_week;
}

abbrev pub decreases-loop-found : goal.decreases-loop-found
decreases-loop-found l = unsigned_abs (l.end -ℤ l.found)
