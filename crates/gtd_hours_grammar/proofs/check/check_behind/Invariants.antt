-- The reading stands behind some pieces of the text, and at each turn fewer moves are left.
use Rattle.std.proofs.Common.{List}
use Rattle.gtd_hours_parts.specs.declared.piece.Piece.{Piece}
use Rattle.gtd_hours_grammar.specs.Steps.{IsReading, moves_left}
use Rattle.gtd_hours_grammar.proofs.check.check_behind.Given as goal

abbrev pub invariant-loop-next : goal.invariant-loop-next
invariant-loop-next l = (given : List Piece) × IsReading l.text l.reading given

abbrev pub decreases-loop-next : goal.decreases-loop-next
decreases-loop-next l = moves_left l.text l.reading
