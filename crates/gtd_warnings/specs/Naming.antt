-- What was read of the vehicle types that a row names.
use Rattle.std.specs.Prelude.{◌↔◌, ℕ, Option}
use Rattle.std.specs.List.{Contains}
use Rattle.gtd_rows.specs.Columns.{Fields}
use Rattle.gtd_rows.specs.declared.vehicles.Vehicles.{Vehicles}
use Rattle.gtd_rows.specs.declared.vehicles.Version.{Version}
use Rattle.gtd_warnings.specs.Codes.{codes_listed, codes_named}

-- the types that were read name the codes that the row names
abbrev pub IsNaming : Version → Fields → Option Vehicles → Type 0
IsNaming v row types = (code : ℕ) → Contains (codes_listed types) code ↔ Contains (codes_named v row) code
