-- The record file of version 2 that stands for given restrictions, one row for each in their order. A line has its end:
-- the LF is its last byte.
use Rattle.std.specs.Prelude.{◌≡◌, ◌==◌, ◌||◌, ◌++◌, ℕ, Bool, false, List, [], ◌∷◌, map, flat_map, codes, decimal, Option}
use Rattle.std.specs.Prelude.{Some, None}
use Rattle.std.specs.List.{list_any}
use Rattle.gtd_core.specs.Trees.{Tree}
use Rattle.gtd_text.specs.Canonical.{canonical}
use Rattle.gtd_records.specs.Closing.{Restriction}
use Rattle.gtd_rows.specs.declared.direction.Closed.{Closed}
use Rattle.gtd_rows.specs.declared.direction.Closed.TheVariants.{One, Both}
use Rattle.gtd_rows.specs.declared.vehicles.Vehicles.{Vehicles}
use Rattle.gtd_rows.specs.declared.vehicles.Vehicles.TheVariants.{Every, Only, AllBut}
use Rattle.gtd_report.specs.Putting.{direction_word}

-- the header line
abbrev pub header_line : List ℕ
header_line = codes "element,direction,vehicles,domain\n"

-- the word for the directions that are closed
abbrev pub closed_word : Closed → List ℕ
closed_word (One direction) = direction_word direction
closed_word Both = codes "both"

-- codes in their order, with semicolons between them
abbrev pub codes_text : List ℕ → List ℕ
codes_text [] = []
codes_text (code ∷ rest) = decimal code ++ flat_map (λ other. codes ";" ++ decimal other) rest

-- the vehicle types: all, a list, or after a `!` all except a list
abbrev pub vehicles_text : Vehicles → List ℕ
vehicles_text Every = codes "0"
vehicles_text (Only types) = codes_text types
vehicles_text (AllBut types) = codes "!" ++ codes_text types

-- the canonical text of an expression, or nothing if there is none
abbrev pub domain_text : Option Tree → List ℕ
domain_text None = []
domain_text (Some tree) = canonical tree

-- the line of a restriction
abbrev pub row_line : Restriction → List ℕ
row_line r =
    decimal r.element ++ codes "," ++ closed_word r.closed ++ codes "," ++ vehicles_text r.vehicles ++ codes ","
    ++ domain_text r.domain ++ codes "\n"

-- the header, and one line for each restriction in their order
abbrev pub migrated : List Restriction → List (List ℕ)
migrated found = header_line ∷ map row_line found

-- a byte that ends a field, a quoted text or a line: a comma, a quotation mark, a CR or an LF
abbrev pub is_mark : ℕ → Bool
is_mark byte = (byte == 44) || (byte == 34) || (byte == 13) || (byte == 10)

-- no byte of the field is such a mark
abbrev pub IsPlainField : List ℕ → Type 0
IsPlainField field = list_any is_mark field ≡ false

-- four fields without marks, the commas between them, and an LF
pub record IsPlainRow (line : List ℕ) : Type 0 where
  pub element : List ℕ
  pub direction : List ℕ
  pub vehicles : List ℕ
  pub domain : List ℕ
  pub element_plain : IsPlainField element
  pub direction_plain : IsPlainField direction
  pub vehicles_plain : IsPlainField vehicles
  pub domain_plain : IsPlainField domain
  pub whole : line ≡ element ++ codes "," ++ direction ++ codes "," ++ vehicles ++ codes "," ++ domain ++ codes "\n"
