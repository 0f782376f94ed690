-- Pieces are passed, and the fault stays the same.
use Rattle.std.proofs.Common.{◌≡◌}
use Rattle.gtd_hours_tokens2.specs.Cursors.{IsInside, ahead, bytes_left}
use Rattle.gtd_hours_reading2.specs.Seen.{or_tokens}
use Rattle.gtd_hours_reading2.proofs.run.fault_ahead.Given as goal

abbrev pub invariant-piece : goal.invariant-piece
invariant-piece l = record {
  inside : IsInside l.text l.cursor;
  same : or_tokens l.fault (ahead l.names l.text l.cursor) ≡ or_tokens l.fault (ahead l.names l.text l.fn.cursor);
}

abbrev pub decreases-piece : goal.decreases-piece
decreases-piece l = bytes_left l.text l.cursor
