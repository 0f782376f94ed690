use Rattle.std.proofs.Common.{◌≡◌, ◌++◌, take, ℕ}
use Rattle.csv.specs.Writing.{escaped}
use Rattle.gtd_mend.specs.Mended.{writer_of}
use Rattle.gtd_mend.proofs.print.push_escaped.Given as goal

-- the bytes so far
abbrev pub invariant-loop-byte : goal.invariant-loop-byte
invariant-loop-byte l =
    (separator : ℕ) → l.text.items ≡ l.fn.text.items ++ escaped (writer_of separator) (take l.byte-index l.field)
