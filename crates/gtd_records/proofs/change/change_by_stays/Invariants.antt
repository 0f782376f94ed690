use Rattle.std.specs.Prelude.{◌<ℤ◌, ◌≤ℤ◌}
use Rattle.gtd_core.specs.Whole.{whole}
use Rattle.gtd_records.specs.Closing.{IsOpen}
use Rattle.gtd_spans.specs.Change.{NeverChanges}
use Rattle.gtd_records.proofs.change.change_by_stays.Given as goal

-- nothing changes so far
abbrev pub invariant-loop : goal.invariant-loop
invariant-loop l = record {
  later : l.fn.second.0 <ℤ l.until.0;
  within : l.until.0 ≤ℤ (whole l.horizon).until;
  never : NeverChanges (IsOpen l.records l.element l.direction l.vehicle) l.fn.second.0 l.until.0;
}
