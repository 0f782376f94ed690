-- A code of restrictions, by which a proof tells values that hold them apart. There is nothing to believe.
use Rattle.std.specs.Prelude.{ℕ, Option}
use Rattle.std.specs.Coded.{Coded, code_by, coded_option, coded_ℕ, coded×}
use Rattle.std.proofs.Common.{refl}
use Rattle.gtd_core.specs.Trees.{Tree}
use Rattle.gtd_core.specs.facts.TreeCode.{tree_code}
use Rattle.gtd_records.specs.Closing.{Restriction}
use Rattle.gtd_rows.specs.declared.direction.Closed.{Closed}
use Rattle.gtd_rows.specs.declared.vehicles.Vehicles.{Vehicles}
use Rattle.gtd_rows.specs.contracts.direction.Closed as closed
use Rattle.gtd_rows.specs.contracts.vehicles.Vehicles as vehicles

abbrev pub restriction_code : Coded Restriction
restriction_code =
    code_by (ℕ × (Closed × (Vehicles × Option Tree)))
    (coded× coded_ℕ (coded× closed.the_row.coded (coded× vehicles.the_row.coded (coded_option tree_code))))
    (λ r. (r.element, (r.closed, (r.vehicles, r.domain))))
    (λ p. record { element = p.0; closed = p.1.0; vehicles = p.1.1.0; domain = p.1.1.1 })
    (λ r. refl)
