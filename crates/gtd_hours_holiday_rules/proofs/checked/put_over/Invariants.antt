-- The bytes that are left to write over are those up to the end, by what is left of the form.
use Rattle.std.proofs.Common.{◌≡◌, ◌-◌}
use Rattle.gtd_hours_holiday_rules.specs.Checked.{put_over}
use Rattle.gtd_hours_holiday_rules.proofs.checked.put_over.Given as goal

abbrev pub invariant-loop-place : goal.invariant-loop-place
invariant-loop-place l =
    put_over (l.to - l.place) l.bytes l.place l.rest ≡ put_over (l.to - l.from) l.initial.bytes l.from l.form

abbrev pub decreases-loop-place : goal.decreases-loop-place
decreases-loop-place l = l.to - l.place
