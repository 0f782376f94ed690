-- The writer has taken the bytes up to the rest that is left.
use Rattle.gtd_tool.specs.Writing.{TakesBefore}
use Rattle.gtd_tool.proofs.writer.put.Given as goal

abbrev pub invariant-loop : goal.invariant-loop
invariant-loop g l = TakesBefore (g.W.Write.contents l.initial.out) (g.W.Write.contents l.out) l.bytes l.rest
