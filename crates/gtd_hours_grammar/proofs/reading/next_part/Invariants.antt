-- The moves so far have completed no piece: what had been read before the call is what has been read, and no more moves
-- are left than before.
use Rattle.gtd_hours_grammar.specs.Steps.{moves_left}
use Rattle.gtd_hours_grammar.proofs.ReadingLemmas.{Keeps}
use Rattle.gtd_hours_grammar.proofs.reading.next_part.Given as goal

abbrev pub invariant-loop-next : goal.invariant-loop-next
invariant-loop-next l = Keeps l.text l.fn.reading l.now

abbrev pub decreases-loop-next : goal.decreases-loop-next
decreases-loop-next l = moves_left l.text l.now
