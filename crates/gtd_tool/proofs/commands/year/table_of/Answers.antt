-- The four words are read in order, and the first one at fault stops the rest.
use Rattle.std.proofs.Common.{◌≡◌, ℕ, List, [], ◌∷◌, Some, sym, subst}
use Rattle.std.proofs.lemmas.Result.{err_from_is_err_and}
use Rattle.gtd_roads.specs.Columns.{direction_of, number_of}
use Rattle.gtd_roads.specs.Direction.{Direction}
use Rattle.gtd_tool.specs.Asked.{Text}
use Rattle.gtd_tool.specs.Commands.Year.{table_parts}
use Rattle.gtd_tool.specs.Readings.{DirectionPart, IsNumberUpTo, NumberPart, NumberUpToPart, Part}
use Rattle.gtd_tool.specs.Refusals.{IsStopped}
use Rattle.gtd_tool.specs.declared.refusal.Refusal.{Refusal}
use Rattle.gtd_tool.proofs.LawLemmas.{direction_faultless, number_faultless, number_up_to_faultless}
use Rattle.gtd_tool.proofs.PlanLemmas.{stopped_after, stopped_front}
use Rattle.gtd_tool.proofs.commands.year.table_of.Goals as goal

module _ (element direction vehicle year : Text) (r : Refusal) where
  abbrev last : List Part
  last = NumberUpToPart 65535 year ∷ []

  abbrev numbers : List Part
  numbers = NumberUpToPart 255 vehicle ∷ last

  at_element : IsStopped (NumberPart element ∷ []) r → IsStopped (table_parts element direction vehicle year) r
  at_element h = stopped_front (NumberPart element ∷ []) (DirectionPart direction ∷ numbers) r h

  after_element : (e : ℕ) → number_of element ≡ Some e → IsStopped (DirectionPart direction ∷ numbers) r
      → IsStopped (table_parts element direction vehicle year) r
  after_element e read h =
      stopped_after (NumberPart element) (DirectionPart direction ∷ numbers) r (number_faultless element e read) h

  at_direction : IsStopped (DirectionPart direction ∷ []) r → IsStopped (DirectionPart direction ∷ numbers) r
  at_direction h = stopped_front (DirectionPart direction ∷ []) numbers r h

  after_direction : (d : Direction) → direction_of direction ≡ Some d → IsStopped numbers r
      → IsStopped (DirectionPart direction ∷ numbers) r
  after_direction d read h = stopped_after (DirectionPart direction) numbers r (direction_faultless direction d read) h

  at_vehicle : IsStopped (NumberUpToPart 255 vehicle ∷ []) r → IsStopped numbers r
  at_vehicle h = stopped_front (NumberUpToPart 255 vehicle ∷ []) last r h

  after_vehicle : (v : ℕ) → IsNumberUpTo 255 vehicle v → IsStopped last r → IsStopped numbers r
  after_vehicle v read h = stopped_after (NumberUpToPart 255 vehicle) last r (number_up_to_faultless 255 vehicle v read) h

pub returns-in_err-element-clause-stopped : goal.returns-in_err-element-clause-stopped
returns-in_err-element-clause-stopped c =
    let p = err_from_is_err_and c.from_residual.result c.from_residual.ensures.1 in
    let element = NumberPart c.args.element.now ∷ [] in
    rw (p.1) (at_element c.args.element.now c.args.direction.now c.args.vehicle.now c.args.year.now p.0
    (subst (IsStopped element) (sym p.2) c.in_err-element.ensures.stopped))

pub returns-in_err-direction-clause-stopped : goal.returns-in_err-direction-clause-stopped
returns-in_err-direction-clause-stopped c =
    let p = err_from_is_err_and c.from_residual-in_err-direction.result c.from_residual-in_err-direction.ensures.1 in
    let direction = DirectionPart c.args.direction.now ∷ [] in
    rw (p.1) (after_element c.args.element.now c.args.direction.now c.args.vehicle.now c.args.year.now p.0
    c.in_ok-element.element c.in_ok-element.ensures.read
    (at_direction c.args.element.now c.args.direction.now c.args.vehicle.now c.args.year.now p.0
    (subst (IsStopped direction) (sym p.2) c.in_err-direction.ensures.stopped)))

pub returns-in_err-vehicle-clause-stopped : goal.returns-in_err-vehicle-clause-stopped
returns-in_err-vehicle-clause-stopped c =
    let p = err_from_is_err_and c.from_residual-in_err-vehicle.result c.from_residual-in_err-vehicle.ensures.1 in
    let vehicle = NumberUpToPart 255 c.args.vehicle.now ∷ [] in
    rw (p.1) (after_element c.args.element.now c.args.direction.now c.args.vehicle.now c.args.year.now p.0
    c.in_ok-element.element c.in_ok-element.ensures.read
    (after_direction c.args.element.now c.args.direction.now c.args.vehicle.now c.args.year.now p.0
    c.in_ok-direction.direction c.in_ok-direction.ensures.read
    (at_vehicle c.args.element.now c.args.direction.now c.args.vehicle.now c.args.year.now p.0
    (subst (IsStopped vehicle) (sym p.2) c.in_err-vehicle.ensures.stopped))))

pub returns-in_err-year-clause-stopped : goal.returns-in_err-year-clause-stopped
returns-in_err-year-clause-stopped c =
    let p = err_from_is_err_and c.from_residual-in_err-year.result c.from_residual-in_err-year.ensures.1 in
    let year = NumberUpToPart 65535 c.args.year.now ∷ [] in
    rw (p.1) (after_element c.args.element.now c.args.direction.now c.args.vehicle.now c.args.year.now p.0
    c.in_ok-element.element c.in_ok-element.ensures.read
    (after_direction c.args.element.now c.args.direction.now c.args.vehicle.now c.args.year.now p.0
    c.in_ok-direction.direction c.in_ok-direction.ensures.read
    (after_vehicle c.args.element.now c.args.direction.now c.args.vehicle.now c.args.year.now p.0
    c.in_ok-vehicle.vehicle c.in_ok-vehicle.ensures.read
    (subst (IsStopped year) (sym p.2) c.in_err-year.ensures.stopped))))
