-- With what stands for the bytes that are left, the output is what it shall be.
use Rattle.std.proofs.Common.{◌≡◌, ◌++◌, length}
use Rattle.gtd_hours_loose.specs.Mending.{plain_end}
use Rattle.gtd_hours_loose.proofs.strict.push_plain_end.Given as goal

abbrev pub invariant-loop-byte : goal.invariant-loop-byte
invariant-loop-byte l = l.out.items ++ plain_end l.rest ≡ l.initial.out.items ++ plain_end l.bytes

abbrev pub decreases-loop-byte : goal.decreases-loop-byte
decreases-loop-byte l = length l.rest
