use Rattle.std.proofs.Common.{◌≡◌}
use Rattle.gtd_conditional_elements.specs.Elements.{tags_of}
use Rattle.gtd_conditional_elements.proofs.found.tags_of.Given as goal

-- the tags so far
abbrev pub invariant-loop-each : goal.invariant-loop-each
invariant-loop-each l = l.tags.items ≡ tags_of l.yielded
