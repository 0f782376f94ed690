-- Sets of vehicle types.
use Rattle.std.specs.Prelude.{◌≤◌, ℕ, Bool, false, IsTrue, slice_index_or}
use Rattle.gtd_conditional_rows.specs.declared.types.Types.{Types}
pub use Rattle.gtd_conditional_rows.specs.Flags.{same_flags}

-- the vehicle types
abbrev pub IsVehicle : ℕ → Type 0
IsVehicle t = (1 ≤ t) × (t ≤ 99)

-- the type is in the set
abbrev pub has_type : Types → ℕ → Bool
has_type types t = slice_index_or types.has t false

abbrev pub HasType : Types → ℕ → Type 0
HasType types t = IsTrue (has_type types t)
