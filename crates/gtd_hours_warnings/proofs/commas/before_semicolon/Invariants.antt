-- The bytes passed and those of the rest before the semicolon are together those before it.
use Rattle.std.proofs.Common.{◌≡◌, ◌+◌, false, length}
use Rattle.gtd_hours_warnings.specs.Commas.{before_semicolon}
use Rattle.gtd_hours_warnings.proofs.commas.before_semicolon.Given as goal

abbrev pub invariant-loop-byte : goal.invariant-loop-byte
invariant-loop-byte l =
    (l.place + before_semicolon l.left l.quoted l.rest ≡ before_semicolon l.number false l.text)
    × (l.place + length l.rest ≡ length l.text)

abbrev pub decreases-loop-byte : goal.decreases-loop-byte
decreases-loop-byte l = length l.rest
