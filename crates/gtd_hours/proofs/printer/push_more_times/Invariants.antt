use Rattle.std.proofs.Common.{◌≡◌, ◌++◌, length, string_bytes}
use Rattle.gtd_hours.specs.Written.{more_times_text}
use Rattle.gtd_hours.proofs.printer.push_more_times.Given as goal

-- what is written, with the rest behind it
abbrev pub invariant-loop-time : goal.invariant-loop-time
invariant-loop-time l = string_bytes l.out ++ more_times_text l.rest ≡ string_bytes l.initial.out ++ more_times_text l.times

abbrev pub decreases-loop-time : goal.decreases-loop-time
decreases-loop-time l = length l.rest
