-- what is written, with the rest after it
use Rattle.std.proofs.Common.{◌≡◌, ◌++◌, length}
use Rattle.gtd_hours2.specs.Rules.{of_kind}
use Rattle.gtd_hours2.specs.Written.{list_text, rest_text}
use Rattle.gtd_hours2.proofs.writer.push_list.Given as goal

abbrev pub invariant-loop-part : goal.invariant-loop-part
invariant-loop-part l =
    l.out.items ++ rest_text l.before l.follows (of_kind l.leads l.kind l.rest)
    ≡ l.initial.out.items ++ list_text l.fn.follows (of_kind l.fn.leads l.fn.kind l.fn.parts)

abbrev pub decreases-loop-part : goal.decreases-loop-part
decreases-loop-part l = length l.rest
