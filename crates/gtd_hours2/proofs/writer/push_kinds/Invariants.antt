-- what is written, with the rest after it
use Rattle.std.proofs.Common.{◌≡◌, ◌++◌, length}
use Rattle.gtd_hours2.specs.Stored.{rule_of}
use Rattle.gtd_hours2.specs.Written.{kinds_text}
use Rattle.gtd_hours2.proofs.writer.push_kinds.Given as goal

abbrev pub invariant-loop-kind : goal.invariant-loop-kind
invariant-loop-kind l =
    l.out.items ++ kinds_text (rule_of l.rule) l.follows l.rest
    ≡ l.initial.out.items ++ kinds_text (rule_of l.fn.rule) l.fn.follows l.fn.kinds

abbrev pub decreases-loop-kind : goal.decreases-loop-kind
decreases-loop-kind l = length l.rest
