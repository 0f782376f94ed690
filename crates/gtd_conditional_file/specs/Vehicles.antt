-- The vehicle types of a row, as a record file names them.
use Rattle.std.specs.Prelude.{◌≡◌, ◌↔◌, ⊤, ℕ, List, []}
use Rattle.std.specs.List.{Contains}
use Rattle.std.specs.List.Sorted.{IsStrictlyIncreasing}
use Rattle.gtd_rows.specs.Serving.{Serves}
use Rattle.gtd_rows.specs.declared.vehicles.Vehicles.{Vehicles}
use Rattle.gtd_rows.specs.declared.vehicles.Vehicles.TheVariants as vehicles
use Rattle.gtd_conditional_rows.specs.Listings.{IsListing}
use Rattle.gtd_conditional_rows.specs.Types.{HasType, IsVehicle}
use Rattle.gtd_conditional_rows.specs.declared.listing.Listing.{Listing}
use Rattle.gtd_conditional_rows.specs.declared.listing.Listing.TheVariants as listing
use Rattle.gtd_conditional_rows.specs.declared.types.Types.{Types}

-- the types of a set, in ascending order
pub record AreNumbers (types : Types) (numbers : List ℕ) : Type 0 where
  pub ascending : IsStrictlyIncreasing numbers
  pub same : (t : ℕ) → IsVehicle t → Contains numbers t ↔ HasType types t
  pub vehicles : (t : ℕ) → Contains numbers t → IsVehicle t

-- they are named as they are listed
abbrev pub IsNamedAs : Listing → Vehicles → Type 0
IsNamedAs listing.Every vehicles.Every = ⊤
IsNamedAs (listing.Only types) (vehicles.Only codes) = AreNumbers types codes
IsNamedAs (listing.AllBut types) (vehicles.AllBut codes) = AreNumbers types codes
IsNamedAs listed named = ⊥

-- The types of a set as a record file names them: all; a list, if they are at most 49; else all except a list, which is not
-- empty. Exactly the types of the set are named.
pub record AreNamed (types : Types) (named : Vehicles) : Type 0 where
  pub listed : Listing
  pub listing : IsListing types listed
  pub written : IsNamedAs listed named
  pub same : (t : ℕ) → IsVehicle t → Serves named t ↔ HasType types t
  pub some_other : named ≡ vehicles.AllBut [] → ⊥
