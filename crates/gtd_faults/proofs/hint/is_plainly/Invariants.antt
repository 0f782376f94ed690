use Rattle.std.proofs.Common.{◌≡◌, ◌≤◌, drop, length}
use Rattle.gtd_rows.specs.Columns.{is_word}
use Rattle.gtd_faults.specs.Hints.{plain}
use Rattle.gtd_faults.proofs.hint.is_plainly.Given as goal

-- the plain form is the text exactly if that of the bytes to come is the rest of it
abbrev pub invariant-loop-byte : goal.invariant-loop-byte
invariant-loop-byte l =
    (l.matched ≤ length l.text)
    × (is_word (plain l.line) l.text ≡ is_word (plain (drop l.byte-index l.line)) (drop l.matched l.text))
