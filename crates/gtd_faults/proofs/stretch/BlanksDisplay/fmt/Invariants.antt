use Rattle.std.proofs.Common.{take}
use Rattle.std.specs.Prelude.{flat_map, ℕ}
use Rattle.std.specs.Fmt.{HasWritten, IsPlainFormatter}
use Rattle.gtd_faults.specs.Snippet.{blanks}
use Rattle.gtd_faults.specs.Printable.{shown_byte}
use Rattle.gtd_faults.proofs.stretch.BlanksDisplay.fmt.Given as goal

-- the spaces so far
abbrev pub invariant-loop-byte : goal.invariant-loop-byte
invariant-loop-byte g l =
    IsPlainFormatter l.initial.f
    → HasWritten g.W.Write.write_str_gives l.initial.f
    (flat_map (λ (byte : ℕ). blanks (shown_byte byte)) (take l.byte-index l.byte-items)) l.f
