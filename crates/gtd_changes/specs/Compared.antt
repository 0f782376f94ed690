-- The rows of a file, in the order in which they are compared.
use Rattle.std.specs.Prelude.{List, map}
use Rattle.gtd_records.specs.Closing.{Restriction}
use Rattle.gtd_changes.specs.declared.rows.Rows.{Rows}
use Rattle.gtd_changes.specs.declared.rows.Rows.TheVariants.{ByElement, InPlace}

abbrev pub rows_in : Rows → List Restriction
rows_in (InPlace rows) = rows.now
rows_in (ByElement rows) = map (λ row. row.now) rows.items
