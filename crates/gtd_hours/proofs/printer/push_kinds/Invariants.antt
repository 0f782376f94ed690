use Rattle.std.proofs.Common.{◌≡◌, ◌++◌, length, string_bytes}
use Rattle.gtd_hours.specs.Written.{kinds_text}
use Rattle.gtd_hours.proofs.printer.push_kinds.Given as goal

-- what is written, with the rest behind it
abbrev pub invariant-loop-kind : goal.invariant-loop-kind
invariant-loop-kind l = string_bytes l.out ++ kinds_text l.rest ≡ string_bytes l.initial.out ++ kinds_text l.kinds

abbrev pub decreases-loop-kind : goal.decreases-loop-kind
decreases-loop-kind l = length l.rest
