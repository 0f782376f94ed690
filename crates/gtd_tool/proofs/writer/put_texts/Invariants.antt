-- The writer has taken the texts passed so far, one after the other.
use Rattle.std.proofs.Common.{take}
use Rattle.std.specs.Io.KnownBytes.{Appends}
use Rattle.gtd_tool.specs.Writing.{joined}
use Rattle.gtd_tool.proofs.writer.put_texts.Given as goal

abbrev pub invariant-loop-text : goal.invariant-loop-text
invariant-loop-text g l = Appends (g.W.Write.contents l.initial.out) (g.W.Write.contents l.out)
    (joined (take l.text-index l.texts))
