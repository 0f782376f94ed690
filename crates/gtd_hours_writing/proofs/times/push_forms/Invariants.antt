-- The list so far, with the forms of the rest, is the whole one.
use Rattle.std.proofs.Common.{◌≡◌, length}
use Rattle.gtd_hours_writing.specs.Times.{with_forms}
use Rattle.gtd_hours_writing.proofs.times.push_forms.Given as goal

abbrev pub invariant-loop-form : goal.invariant-loop-form
invariant-loop-form l = with_forms l.out.items l.rest ≡ with_forms l.initial.out.items l.forms

abbrev pub decreases-loop-form : goal.decreases-loop-form
decreases-loop-form l = length l.rest
