-- What is left, read from the state on after what has been read, is what the text means.
use Rattle.std.proofs.Common.{◌≡◌}
use Rattle.gtd_hours_tokens2.specs.Cursors.{IsInside, ahead, bytes_left}
use Rattle.gtd_hours_reading2.specs.Reading.{read, read_from}
use Rattle.gtd_hours_reading2.specs.Seen.{built}
use Rattle.gtd_hours_reading2.proofs.run.read_hours.Given as goal

abbrev pub invariant-piece : goal.invariant-piece
invariant-piece l = record {
  inside : IsInside l.text l.cursor;
  same : read_from l.text l.state (built l.builder) (ahead l.names l.text l.cursor) ≡ read l.names l.text;
}

abbrev pub decreases-piece : goal.decreases-piece
decreases-piece l = bytes_left l.text l.cursor
