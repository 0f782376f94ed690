-- The names that what is shown of a row uses: versions, vehicle types, restrictions and their columns.
pub use Rattle.gtd_core.specs.Trees.{Tree}
pub use Rattle.gtd_core.specs.declared.fault.TextFault.{TextFault}
pub use Rattle.gtd_records.specs.Closing.{Restriction}
pub use Rattle.gtd_rows.specs.Columns.{Fields, IsOrdered, closed_of, number_of, vehicles_of}
pub use Rattle.gtd_records.specs.ComputedRow.{IsDomainColumn, with_domain}
pub use Rattle.gtd_rows.specs.declared.direction.Closed.{Closed}
pub use Rattle.gtd_records.specs.declared.fault.RecordFault.{RecordFault}
pub use Rattle.gtd_rows.specs.declared.vehicles.Vehicles.{Vehicles}
pub use Rattle.gtd_rows.specs.declared.vehicles.Vehicles.TheVariants.{Every, Only, AllBut}
pub use Rattle.gtd_rows.specs.declared.vehicles.Version.{Version}
