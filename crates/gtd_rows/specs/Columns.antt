-- What reading the columns of a row computes: numbers, directions, and vehicle types.
use Rattle.std.specs.Prelude.{ℕ, ◌&&◌, Bool, if◌then◌else◌, nat_le, nat_eq, List, length, codes, Option, Some, None}
use Rattle.std.specs.Prelude.{option_map, ◌≡◌, false, [], ◌∷◌, ◌==◌, ◌↔◌}
use Rattle.std.specs.Char.{is_ascii_digit}
use Rattle.std.specs.List.{list_all, Contains, slice_split}
use Rattle.std.specs.Cmp.Lexicographic.{pointwise}
use Rattle.std.specs.Str.Parse.{digits_value}
use Rattle.gtd_rows.specs.declared.direction.Direction.{Direction}
use Rattle.gtd_rows.specs.declared.direction.Direction.TheVariants.{Positive, Negative}
use Rattle.gtd_rows.specs.declared.direction.Closed.{Closed}
use Rattle.gtd_rows.specs.declared.direction.Closed.TheVariants.{One, Both}
use Rattle.std.specs.List.Sorted.{IsStrictlyIncreasing}
use Rattle.gtd_rows.specs.declared.vehicles.Vehicles.{Vehicles}
use Rattle.gtd_rows.specs.declared.vehicles.Vehicles.TheVariants.{Every, Only, AllBut}
use Rattle.gtd_rows.specs.declared.vehicles.Version.{Version}
use Rattle.gtd_rows.specs.declared.vehicles.Version.TheVariants as version

-- the fields of a record, each the bytes that stand for it
abbrev pub Fields : Type 0
Fields = List (List ℕ)

-- the text is the word, byte for byte
abbrev pub is_word : List ℕ → List ℕ → Bool
is_word text word = pointwise nat_eq text word

-- the number that 1 to 10 ASCII digits stand for
abbrev pub number_of : List ℕ → Option ℕ
number_of text =
    if nat_le 1 (length text) && nat_le (length text) 10 && list_all is_ascii_digit text
    then Some (digits_value 10 text)
    else None

-- the direction that a word names
abbrev pub direction_of : List ℕ → Option Direction
direction_of text =
    if is_word text (codes "positive") then Some Positive
    else if is_word text (codes "negative") then Some Negative
    else None

-- the directions that a word closes
abbrev pub closed_of : List ℕ → Option Closed
closed_of text = if is_word text (codes "both") then Some Both else option_map One (direction_of text)

-- the code that 1 or 2 ASCII digits stand for
abbrev pub code_of : List ℕ → Option ℕ
code_of text = if nat_le (length text) 2 then number_of text else None

-- the code 0
abbrev pub is_zero : Option ℕ → Bool
is_zero None = false
is_zero (Some code) = code == 0

-- a code that names a type: from 1 to 99
abbrev pub named : Option ℕ → Option ℕ
named None = None
named (Some code) = if code == 0 then None else Some code

abbrev pub type_of : List ℕ → Option ℕ
type_of text = named (code_of text)

-- a first code and those after it, if all are there
abbrev pub and_code : Option ℕ → Option (List ℕ) → Option (List ℕ)
and_code None codes = None
and_code (Some code) None = None
and_code (Some code) (Some codes) = Some (code ∷ codes)

-- the codes of items, in their order, if each item names a type
abbrev pub codes_of : List (List ℕ) → Option (List ℕ)
codes_of [] = Some []
codes_of (item ∷ items) = and_code (type_of item) (codes_of items)

-- the items of a list, which semicolons separate
abbrev pub items_of : List ℕ → List (List ℕ)
items_of text = slice_split (λ b. b == 59) text

-- the types of a list, the codes in its order; after a `!`, all except those
abbrev pub types_listed : List ℕ → Option Vehicles
types_listed [] = None
types_listed (first ∷ rest) =
    if first == 33
    then option_map AllBut (codes_of (items_of rest))
    else option_map Only (codes_of (items_of (first ∷ rest)))

-- the single type that is named
abbrev pub single : List ℕ → Option Vehicles
single text = option_map (λ code. Only (code ∷ [])) (type_of text)

-- the types that a column names, the codes in its order: all types for the code 0, otherwise one type or a list
abbrev pub vehicles_of : Version → List ℕ → Option Vehicles
vehicles_of version.One text = if is_zero (code_of text) then Some Every else single text
vehicles_of version.Two text = if is_zero (code_of text) then Some Every else types_listed text

-- the same codes, in ascending order, each once
pub record IsSortedSet (codes types : List ℕ) : Type 0 where
  pub order : IsStrictlyIncreasing types
  pub same : (code : ℕ) → Contains types code ↔ Contains codes code

-- the same types, the codes in ascending order, each once
abbrev pub IsOrdered : Vehicles → Vehicles → Type 0
IsOrdered Every vehicles = vehicles ≡ Every
IsOrdered (Only codes) vehicles = (types : List ℕ) × IsSortedSet codes types × (vehicles ≡ Only types)
IsOrdered (AllBut codes) vehicles = (types : List ℕ) × IsSortedSet codes types × (vehicles ≡ AllBut types)

-- a list was read as these codes, in ascending order, each once
abbrev pub IsCodes : Option (List ℕ) → Option (List ℕ) → Type 0
IsCodes None read = read ≡ None
IsCodes (Some codes) read = (types : List ℕ) × IsSortedSet codes types × (read ≡ Some types)

-- what a column names was read as these types
abbrev pub AreTypesRead : Option Vehicles → Option Vehicles → Type 0
AreTypesRead None read = read ≡ None
AreTypesRead (Some vehicles) read = (ordered : Vehicles) × IsOrdered vehicles ordered × (read ≡ Some ordered)
