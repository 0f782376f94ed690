use Rattle.gtd_records.specs.Alike.{AreCovered}
use Rattle.gtd_records.proofs.alike.is_within.Given as goal

-- the rows so far that close the one have others of the same domains
abbrev pub invariant-loop-at : goal.invariant-loop-at
invariant-loop-at l = AreCovered l.found l.part l.others l.one.direction l.other.direction l.vehicle l.at
