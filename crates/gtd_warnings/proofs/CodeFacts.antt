-- What was read names what a column names.
use Rattle.std.proofs.Common.{◌↔◌, ℕ, Option, Some, None, Contains}
use Rattle.gtd_rows.specs.Columns.{AreTypesRead}
use Rattle.gtd_rows.specs.declared.vehicles.Vehicles.{Vehicles}
use Rattle.gtd_rows.specs.declared.vehicles.Vehicles.TheVariants.{Every, Only, AllBut}
use Rattle.gtd_warnings.specs.Codes.{codes_listed}

pub read_names : (wanted read : Option Vehicles) → AreTypesRead wanted read → (code : ℕ)
    → Contains (codes_listed read) code ↔ Contains (codes_listed wanted) code
read_names None read is code = rw is ((λ h. h), (λ h. h))
read_names (Some Every) read is code = rw (is.2, is.1) ((λ h. h), (λ h. h))
read_names (Some (Only codes)) read is code = rw (is.2, is.1.2) (is.1.1.same code)
read_names (Some (AllBut codes)) read is code = rw (is.2, is.1.2) (is.1.1.same code)
