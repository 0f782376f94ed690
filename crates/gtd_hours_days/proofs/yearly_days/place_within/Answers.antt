-- A place is a day of the calendar, in all years but its first and its last.
use Rattle.std.proofs.Common.{refl, pos}
use Rattle.gtd_hours.specs.ComputedPlaces.{end_day}
use Rattle.gtd_hours.specs.declared.places.End.TheVariants.{Place}
use Rattle.gtd_hours.specs.facts.PlaceFacts.{end-is}
use Rattle.gtd_hours_days.proofs.EasterFacts.{place_near}
use Rattle.gtd_hours_days.proofs.yearly_days.place_within.Goals as goal

pub unreachable-requires : goal.unreachable-requires
unreachable-requires c =
    let x = c.args.place in
    let y = c.args.year in
    let n = end_day (Place x) (pos y) in
    let is = end-is (Place x) (pos y) refl in
    let some = c.in-None.ensures.accepted.1 (n, is, place_near x y n c.requires is) in
    cc
