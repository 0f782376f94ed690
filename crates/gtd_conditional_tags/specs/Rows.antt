-- What the rows of a file of tags say.
use Rattle.std.specs.Prelude.{◌≡◌, ℕ, ◌+◌, Bool, ◌&&◌, true, false, if◌then◌else◌, List, [], ◌∷◌, ◌++◌, ◌==◌, Option, Some, None}
use Rattle.std.specs.Prelude.{Result, Ok, Err}
use Rattle.std.specs.List.{list_any}
use Rattle.gtd_rows.specs.Columns.{Fields, number_of}
use Rattle.gtd_conditional_means.specs.declared.meaning.MeansRow.{MeansRow}
use Rattle.gtd_conditional_tags.specs.Keys.{is_at_fault, is_same_key, key_of}
use Rattle.gtd_conditional_tags.specs.declared.fault.TagsFault.{TagsFault}
use Rattle.gtd_conditional_tags.specs.declared.fault.TagsFault.TheVariants as fault
use Rattle.gtd_conditional_tags.specs.declared.key.Key.{Key}
use Rattle.gtd_conditional_tags.specs.declared.row.Tag.{Tag}
use Rattle.gtd_conditional_tags.specs.declared.row.TagRow.{TagRow}

-- what a tag says: the number of its row, its element, its key and its value
pub record Said : Type 0 where
  pub row : ℕ
  pub element : ℕ
  pub key : Key
  pub value : List ℕ

abbrev pub said_by : Tag → Said
said_by tag = record { row = tag.row; element = tag.element; key = tag.key; value = tag.value.items }

abbrev pub said_in : TagRow → Said
said_in tag = record { row = tag.row; element = tag.element; key = tag.key; value = tag.value.now }

-- A row says a tag, or nothing; or it is at fault.
abbrev pub RowSays : Type 0
RowSays = Result (Option Said) TagsFault

-- by its key, if it has one, or whether it is at fault
abbrev pub with_key : Option Key → Bool → ℕ → ℕ → List ℕ → RowSays
with_key (Some key) bad row element value = Ok (Some (record { row = row; element = element; key = key; value = value }))
with_key None true row element value = Err (fault.Key row)
with_key None false row element value = Ok None

-- and by its element
abbrev pub with_element : List MeansRow → ℕ → Option ℕ → List ℕ → List ℕ → RowSays
with_element means row None key value = Err (fault.Element row)
with_element means row (Some element) key value = with_key (key_of means key) (is_at_fault means key) row element value

-- what the row with this number says, whatever rows come before it
abbrev pub alone : List MeansRow → ℕ → Fields → RowSays
alone means row (element ∷ key ∷ value ∷ []) = with_element means row (number_of element) key value
alone means row other = Err (fault.FieldCount row)

-- a tag is of the element and has the key
abbrev pub is_tag_of : ℕ → Key → Said → Bool
is_tag_of element key tag = (tag.element == element) && is_same_key tag.key key

-- a tag whose key an earlier one of its element has is at fault
abbrev pub unless_repeated : List Said → RowSays → RowSays
unless_repeated before (Ok (Some tag)) =
    if list_any (is_tag_of tag.element tag.key) before then Err (fault.Repeated tag.row) else Ok (Some tag)
unless_repeated before (Ok None) = Ok None
unless_repeated before (Err why) = Err why

-- what the row with this number says after these tags
abbrev pub row_of : List MeansRow → List Said → ℕ → Fields → RowSays
row_of means before row fields = unless_repeated before (alone means row fields)

-- what a row adds to the tags, and to the faults
abbrev pub tag_in : RowSays → List Said
tag_in (Ok (Some tag)) = tag ∷ []
tag_in (Ok None) = []
tag_in (Err why) = []

abbrev pub fault_in : RowSays → List TagsFault
fault_in (Ok said) = []
fault_in (Err why) = why ∷ []

-- the tags of rows, the first of which has this number, after those before them; and the faults of the others
abbrev pub tags_of : List MeansRow → List Said → ℕ → List Fields → List Said
tags_of means before number [] = before
tags_of means before number (row ∷ rows) = tags_of means (before ++ tag_in (row_of means before number row)) (number + 1) rows

abbrev pub faults_of : List MeansRow → List Said → ℕ → List Fields → List TagsFault
faults_of means before number [] = []
faults_of means before number (row ∷ rows) =
    fault_in (row_of means before number row)
    ++ faults_of means (before ++ tag_in (row_of means before number row)) (number + 1) rows

-- what was read of a row is this
abbrev pub IsRead : Result (Option TagRow) TagsFault → RowSays → Type 0
IsRead (Ok (Some tag)) says = says ≡ Ok (Some (said_in tag))
IsRead (Ok None) says = says ≡ Ok None
IsRead (Err why) says = says ≡ Err why
