use Rattle.std.proofs.Common.{◌≡◌, ◌++◌, List, length}
use Rattle.gtd_hours_holidays.specs.declared.run.Run.{Run}
use Rattle.gtd_hours_days.specs.Parts.{AreShort}
use Rattle.gtd_hours_known.specs.HolidayDays.{AreRangesOf}
use Rattle.gtd_hours_known.proofs.selectors.run_selectors.Given as goal

-- the selectors so far are those of the runs that were passed
abbrev pub invariant-loop-run : goal.invariant-loop-run
invariant-loop-run l = record {
  ranges : (passed : List Run) × (l.runs ≡ passed ++ l.rest) × AreRangesOf passed l.days.items;
  short : AreShort l.rest;
}

abbrev pub decreases-loop-run : goal.decreases-loop-run
decreases-loop-run l = length l.rest
