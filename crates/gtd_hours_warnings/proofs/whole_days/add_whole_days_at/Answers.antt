-- What one place and those behind it add is what is left to be added.
use Rattle.std.proofs.Common.{◌≡◌, ◌∷◌, subst, ℕ}
use Rattle.gtd_hours_warnings.specs.Marks.{IsWholeDayWarning}
use Rattle.gtd_hours_warnings.proofs.MarkFacts.{whole_days_left}
use Rattle.gtd_hours_warnings.proofs.whole_days.add_whole_days_at.Goals as goal

pub loop-place-preserved : goal.loop-place-preserved
loop-place-preserved c =
    let rest = c.loop-place.rest.now in
    let place = c.in-Some.place.now in
    let later = c.in-Some.later.now in
    let split : rest ≡ place ∷ later = c.in-Some.ensures.cases.0 in
    let warning =
    subst (λ (at : ℕ). IsWholeDayWarning at c.in_ok-warning.warning) c.place_in.ensures c.in_ok-warning.ensures in
    λ all adds. c.loop-place.invariant all
    (whole_days_left c.args.text.now c.args.form.now rest later place c.in_ok-warning.warning c.loop-place.warnings.items
    c.put_in.new.warnings.items all split warning c.in_ok-put_in.ensures adds)
