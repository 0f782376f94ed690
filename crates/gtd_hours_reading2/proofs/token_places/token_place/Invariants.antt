-- What is found ahead is what the text has.
use Rattle.std.proofs.Common.{ℕ}
use Rattle.gtd_hours_tokens2.specs.Cursors.{IsInside, bytes_left}
use Rattle.gtd_hours_reading2.specs.TokenPlaces.{IsNthOffset, IsOffsetAhead}
use Rattle.gtd_hours_reading2.proofs.token_places.token_place.Given as goal

abbrev pub invariant-piece : goal.invariant-piece
invariant-piece l = record {
  inside : IsInside l.text l.cursor;
  same : (offset : ℕ) → IsOffsetAhead l.names l.text l.cursor l.from l.class l.left offset
      → IsNthOffset l.names l.text l.from l.class l.fn.number offset;
}

abbrev pub decreases-piece : goal.decreases-piece
decreases-piece l = bytes_left l.text l.cursor
