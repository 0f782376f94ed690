-- The codes of vehicle types that are kept of a record.
use Rattle.std.specs.Prelude.{ℕ, List, [], ◌∷◌}
use Rattle.gtd_rows.specs.declared.vehicles.Kept.{Kept}
use Rattle.gtd_rows.specs.declared.vehicles.Kept.TheVariants.{One, Several}

abbrev pub kept_codes : Kept → List ℕ
kept_codes (One code) = code ∷ []
kept_codes (Several codes) = codes.value.items
