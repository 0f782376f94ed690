-- The rows of a table of means.
use Rattle.std.specs.Prelude.{◌≡◌, ℕ, Bool, ◌&&◌, not, false, true, if◌then◌else◌, List, [], ◌∷◌, Option, Some, None}
use Rattle.std.specs.Prelude.{Result, Ok, Err}
use Rattle.gtd_rows.specs.Columns.{AreTypesRead, Fields, vehicles_of}
use Rattle.gtd_rows.specs.declared.vehicles.Vehicles.{Vehicles}
use Rattle.gtd_rows.specs.declared.vehicles.Version.TheVariants.{Two}
use Rattle.gtd_conditional_means.specs.Comparisons.{is_some_text}
use Rattle.gtd_conditional_means.specs.Names.{access_word, is_name, is_repeated, is_there, kind_of}
use Rattle.gtd_conditional_means.specs.declared.fault.MeansFault.{MeansFault}
use Rattle.gtd_conditional_means.specs.declared.fault.MeansFault.TheVariants as fault
use Rattle.gtd_conditional_means.specs.declared.meaning.Access.{Access}
use Rattle.gtd_conditional_means.specs.declared.meaning.MeansKind.{MeansKind}
use Rattle.gtd_conditional_means.specs.declared.meaning.MeansKind.TheVariants as kind
use Rattle.gtd_conditional_means.specs.declared.meaning.Meaning.{Meaning}
use Rattle.gtd_conditional_means.specs.declared.meaning.Meaning.TheVariants as meaning
use Rattle.gtd_conditional_means.specs.declared.meaning.MeansRow.{MeansRow}

-- the third field is one of the kind: vehicle types as in a record file of version 2, `open` or `closed`, or nothing
abbrev pub is_meant : MeansKind → List ℕ → Bool
is_meant kind.Mode text = is_there (vehicles_of Two text)
is_meant kind.Condition text = is_there (vehicles_of Two text)
is_meant kind.Value text = is_there (access_word text)
is_meant kind.Ignore text = not (is_some_text text)

-- what the third field of a row of the kind stands for
abbrev pub IsMeaning : MeansKind → List ℕ → Meaning → Type 0
IsMeaning kind.Mode text what =
    (types : Vehicles) × AreTypesRead (vehicles_of Two text) (Some types) × (what ≡ meaning.Mode types)
IsMeaning kind.Condition text what =
    (types : Vehicles) × AreTypesRead (vehicles_of Two text) (Some types) × (what ≡ meaning.Condition types)
IsMeaning kind.Value text what = (access : Access) × (access_word text ≡ Some access) × (what ≡ meaning.Value access)
IsMeaning kind.Ignore text what = (text ≡ []) × (what ≡ meaning.Ignore)

-- the kind stands for vehicle types
abbrev pub has_types : MeansKind → Bool
has_types kind.Mode = true
has_types kind.Condition = true
has_types kind.Value = false
has_types kind.Ignore = false

-- The first fault of a row with this number, by what holds of it: the third field is one of the kind, the name is, and it
-- stands for something before.
abbrev pub fault_of : ℕ → MeansKind → Bool → Bool → Bool → Option MeansFault
fault_of number kind meant named repeated =
    if has_types kind && not meant then Some (fault.Vehicle number)
    else if not named then Some (fault.Name number)
    else if repeated then Some (fault.Repeated number)
    else if not meant then Some (fault.Value number)
    else None

abbrev pub row_fault : ℕ → List MeansRow → MeansKind → List ℕ → List ℕ → Option MeansFault
row_fault number before kind name means =
    fault_of number kind (is_meant kind means) (is_name kind name) (is_repeated before kind name)

-- the row says what its fields stand for
pub record IsRowOf (kind : MeansKind) (name means : List ℕ) (row : MeansRow) : Type 0 where
  pub named : row.name.items ≡ name
  pub meant : IsMeaning kind means row.meaning

-- a fault, or otherwise what the fields stand for
abbrev pub IsAnswer : Option MeansFault → MeansKind → List ℕ → List ℕ → Result MeansRow MeansFault → Type 0
IsAnswer (Some why) kind name means answer = answer ≡ Err why
IsAnswer None kind name means answer = (row : MeansRow) × IsRowOf kind name means row × (answer ≡ Ok row)

-- what a row of a kind says, or its first fault; a kind that is none is one
abbrev pub IsKindRow : ℕ → List MeansRow → Option MeansKind → List ℕ → List ℕ → Result MeansRow MeansFault → Type 0
IsKindRow number before None name means answer = answer ≡ Err (fault.Kind number)
IsKindRow number before (Some kind) name means answer =
    IsAnswer (row_fault number before kind name means) kind name means answer

-- the row with this number says this, or has this first fault, if these rows were read before
abbrev pub IsRow : ℕ → List MeansRow → Fields → Result MeansRow MeansFault → Type 0
IsRow number before (kind ∷ name ∷ means ∷ []) answer = IsKindRow number before (kind_of kind) name means answer
IsRow number before _ answer = answer ≡ Err (fault.FieldCount number)
