-- What a restriction is, and when it closes a road element.
use Rattle.std.specs.Prelude.{ℕ, Option, ◌≡◌, ℤ, List, Any, Some, None, ⊤, ◌↔◌}
use Rattle.gtd_core.specs.Trees.{Tree}
use Rattle.gtd_rows.specs.declared.direction.Closed.{Closed}
use Rattle.gtd_rows.specs.declared.vehicles.Vehicles.{Vehicles}
use Rattle.std.specs.List.{Contains}
use Rattle.std.specs.List.Sorted.{IsStrictlyIncreasing}
use Rattle.gtd_eval.specs.Membership.{InTree}
use Rattle.gtd_rows.specs.declared.direction.Closed.TheVariants.{Both}
use Rattle.gtd_rows.specs.declared.direction.Direction.{Direction}
use Rattle.gtd_rows.specs.Serving.{ClosesDirection, Serves}

-- The element, in which direction it is closed, for which vehicle types, and at the seconds of which expression: at all
-- seconds if none is given.
pub record Restriction : Type 0 where
  pub element : ℕ
  pub closed : Closed
  pub vehicles : Vehicles
  pub domain : Option Tree

-- the expression contains the second; no expression stands for every second
abbrev pub HoldsAt : Option Tree → ℤ → Type 0
HoldsAt None second = ⊤
HoldsAt (Some tree) second = InTree tree second

-- the restriction closes its element in the direction for the vehicle type, whatever the second
abbrev pub Concerns : Direction → ℕ → Restriction → Type 0
Concerns direction vehicle r = ClosesDirection r.closed direction × Serves r.vehicles vehicle

-- the restriction closes the element in the direction for the vehicle type at the second
pub record Closes (element : ℕ) (direction : Direction) (vehicle : ℕ) (second : ℤ) (r : Restriction) : Type 0 where
  pub names : r.element ≡ element
  pub concerns : ClosesDirection r.closed direction × Serves r.vehicles vehicle
  pub holds : HoldsAt r.domain second

-- the restriction closes the element for the vehicle type, whatever the second, in one direction alone
pub record ClosesOneWay (element vehicle : ℕ) (r : Restriction) : Type 0 where
  pub names : r.element ≡ element
  pub serves : Serves r.vehicles vehicle
  pub one : r.closed ≡ Both → ⊥

-- some restriction closes it
abbrev pub IsClosed : List Restriction → ℕ → Direction → ℕ → ℤ → Type 0
IsClosed found element direction vehicle second = Any (Closes element direction vehicle second) found

-- no restriction closes it
abbrev pub IsOpen : List Restriction → ℕ → Direction → ℕ → ℤ → Type 0
IsOpen found element direction vehicle second = Any (Closes element direction vehicle second) found → ⊥

-- the elements that the restrictions name, in ascending order, each once
pub record AreElements (found : List Restriction) (elements : List ℕ) : Type 0 where
  pub ascending : IsStrictlyIncreasing elements
  pub named : (element : ℕ) → Contains elements element ↔ Any (λ (r : Restriction). r.element ≡ element) found
