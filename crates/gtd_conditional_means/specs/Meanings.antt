-- What a name stands for, by the rows of a table.
use Rattle.std.specs.Prelude.{ℕ, ◌+◌, Bool, ◌&&◌, ◌||◌, false, true, if◌then◌else◌, List, [], ◌∷◌, codes, Option, Some, None}
use Rattle.std.specs.Option.{option_or}
use Rattle.gtd_rows.specs.Columns.{is_word}
use Rattle.gtd_rows.specs.declared.vehicles.Vehicles.{Vehicles}
use Rattle.gtd_conditional_means.specs.declared.meaning.Access.{Access}
use Rattle.gtd_conditional_means.specs.declared.meaning.Access.TheVariants.{Open, Closed}
use Rattle.gtd_conditional_means.specs.declared.meaning.MeansKind.{MeansKind}
use Rattle.gtd_conditional_means.specs.declared.meaning.MeansKind.TheVariants as kind
use Rattle.gtd_conditional_means.specs.declared.meaning.Meaning.{Meaning}
use Rattle.gtd_conditional_means.specs.declared.meaning.Meaning.TheVariants as meaning
use Rattle.gtd_conditional_means.specs.declared.meaning.MeansRow.{MeansRow}

-- the kind of a name that stands for this
abbrev pub kind_of_meaning : Meaning → MeansKind
kind_of_meaning (meaning.Mode types) = kind.Mode
kind_of_meaning (meaning.Condition types) = kind.Condition
kind_of_meaning (meaning.Value access) = kind.Value
kind_of_meaning meaning.Ignore = kind.Ignore

-- a meaning is of the kind
abbrev pub is_of_kind : MeansKind → Meaning → Bool
is_of_kind kind.Mode (meaning.Mode types) = true
is_of_kind kind.Condition (meaning.Condition types) = true
is_of_kind kind.Value (meaning.Value access) = true
is_of_kind kind.Ignore meaning.Ignore = true
is_of_kind other what = false

-- a row is of the kind and has the name
abbrev pub is_row_of : MeansKind → List ℕ → MeansRow → Bool
is_row_of kind name row = is_of_kind kind row.meaning && is_word row.name.items name

-- what the first row of this kind and name says
abbrev pub meaning_of : MeansKind → List ℕ → List MeansRow → Option Meaning
meaning_of kind name [] = None
meaning_of kind name (row ∷ rows) = if is_row_of kind name row then Some row.meaning else meaning_of kind name rows

-- how many rows come before that row, if so many come before these
abbrev pub place_of : ℕ → MeansKind → List ℕ → List MeansRow → Option ℕ
place_of count kind name [] = None
place_of count kind name (row ∷ rows) = if is_row_of kind name row then Some count else place_of (count + 1) kind name rows

-- the vehicle types that a row says
abbrev pub types_said : Option Meaning → Option Vehicles
types_said (Some (meaning.Mode types)) = Some types
types_said (Some (meaning.Condition types)) = Some types
types_said other = None

abbrev pub types_of : MeansKind → List ℕ → List MeansRow → Option Vehicles
types_of kind name rows = types_said (meaning_of kind name rows)

-- the values of access that no table needs
abbrev pub known_access : List ℕ → Option Access
known_access name =
    if is_word name (codes "no") then Some Closed
    else if is_word name (codes "yes") || is_word name (codes "designated") || is_word name (codes "permissive") then Some Open
    else None

-- what a row says of a value
abbrev pub access_said : Option Meaning → Option Access
access_said (Some (meaning.Value access)) = Some access
access_said other = None

-- what a value of access says
abbrev pub access_of : List MeansRow → List ℕ → Option Access
access_of rows name = option_or (known_access name) (access_said (meaning_of kind.Value name rows))
