-- The output has grown by the bytes passed, in lower case.
use Rattle.std.proofs.Common.{◌≡◌, ◌++◌, map, take}
use Rattle.std.specs.Char.{to_ascii_lowercase}
use Rattle.gtd_hours_loose.proofs.strict.push_lower.Given as goal

abbrev pub invariant-loop-byte : goal.invariant-loop-byte
invariant-loop-byte l = l.out.items ≡ l.initial.out.items ++ map to_ascii_lowercase (take l.byte-index l.written)
