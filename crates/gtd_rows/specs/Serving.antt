-- Which vehicle types and which directions are meant.
use Rattle.std.specs.Prelude.{ℕ, ◌≡◌, ⊤}
use Rattle.std.specs.List.{Contains}
use Rattle.gtd_rows.specs.declared.direction.Closed.{Closed}
use Rattle.gtd_rows.specs.declared.direction.Closed.TheVariants.{One, Both}
use Rattle.gtd_rows.specs.declared.direction.Direction.{Direction}
use Rattle.gtd_rows.specs.declared.vehicles.Vehicles.{Vehicles}
use Rattle.gtd_rows.specs.declared.vehicles.Vehicles.TheVariants.{Every, Only, AllBut}

-- the type is one of them
abbrev pub Serves : Vehicles → ℕ → Type 0
Serves Every vehicle = ⊤
Serves (Only types) vehicle = Contains types vehicle
Serves (AllBut types) vehicle = Contains types vehicle → ⊥

-- what is closed has this direction
abbrev pub ClosesDirection : Closed → Direction → Type 0
ClosesDirection (One closed) direction = closed ≡ direction
ClosesDirection Both direction = ⊤
