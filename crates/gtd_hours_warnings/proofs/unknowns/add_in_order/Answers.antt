-- What one place and those behind it add is what is left to be added.
use Rattle.std.proofs.Common.{◌≡◌, ◌∷◌}
use Rattle.gtd_hours_warnings.proofs.UnknownFacts.{not_known_left}
use Rattle.gtd_hours_warnings.proofs.unknowns.add_in_order.Goals as goal

pub loop-place-preserved : goal.loop-place-preserved
loop-place-preserved c =
    let rest = c.loop-place.rest.now in
    let place = c.in-Some.place.now in
    let later = c.in-Some.later.now in
    let split : rest ≡ place ∷ later = c.in-Some.ensures.cases.0 in
    λ all adds. c.loop-place.invariant all
    (not_known_left rest later place c.not_known_warning.result c.loop-place.warnings.items c.put_in.new.warnings.items all split
    c.not_known_warning.ensures c.in_ok-put_in.ensures adds)
