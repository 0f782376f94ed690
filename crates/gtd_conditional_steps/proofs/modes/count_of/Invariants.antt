-- The tags so far are of the mode.
use Rattle.std.proofs.Common.{◌≡◌, ◌+◌, length}
use Rattle.std.specs.List.{prefix_len}
use Rattle.gtd_conditional_steps.specs.Modes.{is_of_mode}
use Rattle.gtd_conditional_steps.proofs.modes.count_of.Given as goal

abbrev pub invariant-loop-tag : goal.invariant-loop-tag
invariant-loop-tag l =
    (l.count + prefix_len (is_of_mode l.mode) l.rest ≡ prefix_len (is_of_mode l.mode) l.tags)
    × (l.count + length l.rest ≡ length l.tags)

abbrev pub decreases-loop-tag : goal.decreases-loop-tag
decreases-loop-tag l = length l.rest
