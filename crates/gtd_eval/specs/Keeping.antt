-- What the leaves of a cursor that keeps spans still have to hand out, and how large they are.
use Rattle.std.specs.Prelude.{ℕ, List, length}
use Rattle.gtd_core.specs.Seconds.{Interval}
use Rattle.gtd_recur.specs.RunsToCome.{runs_to_come, runs_ticks, runs_whole}
use Rattle.gtd_eval.specs.Cursors.{cursor_list, cursor_whole, cursor_nodes, cursor_height, cursor_work, cursor_ticks}
use Rattle.gtd_eval.specs.Leaves.{runs_size}
use Rattle.gtd_kept.specs.Kept.{rest_of}
use Rattle.gtd_eval.specs.Shape.{Size}
use Rattle.gtd_eval.specs.declared.kept.KeptPeriod.{KeptPeriod}
use Rattle.gtd_eval.specs.declared.kept.Part.{Part}
use Rattle.gtd_eval.specs.declared.kept.Part.TheVariants.{Basic, Repeating}

-- what a cursor with its kept period still has to hand out
abbrev pub period_list : KeptPeriod → List Interval
period_list kept = rest_of kept.again (cursor_list kept.inner)

-- what it had to hand out at first
abbrev pub period_whole : KeptPeriod → List Interval
period_whole kept = cursor_whole kept.inner

-- what a leaf still has to hand out
abbrev pub part_list : Part → List Interval
part_list (Basic runs) = runs_to_come runs
part_list (Repeating kept) = period_list kept

-- what a leaf had to hand out at first
abbrev pub part_whole : Part → List Interval
part_whole (Basic runs) = runs_whole runs
part_whole (Repeating kept) = period_whole kept

-- it is as large as the cursor of which the spans of a period are kept
abbrev pub period_size : KeptPeriod → Size
period_size kept = record {
  nodes = cursor_nodes kept.inner;
  height = cursor_height kept.inner;
  work = cursor_work kept.inner;
  periods = 1;
}

abbrev pub part_size : Part → Size
part_size (Basic runs) = runs_size runs
part_size (Repeating kept) = period_size kept

abbrev pub part_ticks : Part → ℕ
part_ticks (Basic runs) = runs_ticks runs
part_ticks (Repeating kept) = cursor_ticks kept.inner

-- how many spans it keeps of its periods
abbrev pub part_kept : Part → ℕ
part_kept (Basic runs) = 0
part_kept (Repeating kept) = length kept.again.kept.items

-- how many it keeps of those that it handed out before all of a period were kept
abbrev pub part_told : Part → ℕ
part_told (Basic runs) = 0
part_told (Repeating kept) = length kept.again.told.items
