use Rattle.std.proofs.Common.{◌≡◌, map}
use Rattle.gtd_conditional_values.specs.TermHours.{placed}
use Rattle.gtd_conditional_values.proofs.hours.placed.Given as goal

-- the warnings so far, with their places in the value
abbrev pub invariant-loop-warning : goal.invariant-loop-warning
invariant-loop-warning l = l.found.items ≡ map (placed l.start) l.yielded
