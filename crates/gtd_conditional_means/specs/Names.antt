-- The fields of a row: kinds, and which names are of a kind.
use Rattle.std.specs.Prelude.{ℕ, Bool, ◌||◌, false, true, if◌then◌else◌, List, codes, Option, Some, None}
use Rattle.gtd_rows.specs.Columns.{is_word}
use Rattle.gtd_conditional_means.specs.Comparisons.{is_lower_word, is_some_text, normal_of}
use Rattle.gtd_conditional_means.specs.Meanings.{known_access, meaning_of}
use Rattle.gtd_conditional_means.specs.declared.meaning.Access.{Access}
use Rattle.gtd_conditional_means.specs.declared.meaning.Access.TheVariants.{Open, Closed}
use Rattle.gtd_conditional_means.specs.declared.meaning.MeansKind.{MeansKind}
use Rattle.gtd_conditional_means.specs.declared.meaning.MeansKind.TheVariants as kind
use Rattle.gtd_conditional_means.specs.declared.meaning.MeansRow.{MeansRow}

-- the kind that a word names
abbrev pub kind_of : List ℕ → Option MeansKind
kind_of text =
    if is_word text (codes "mode") then Some kind.Mode
    else if is_word text (codes "condition") then Some kind.Condition
    else if is_word text (codes "value") then Some kind.Value
    else if is_word text (codes "ignore") then Some kind.Ignore
    else None

-- there is such a text, and it is this one
abbrev pub is_this : Option (List ℕ) → List ℕ → Bool
is_this None text = false
is_this (Some form) text = is_word form text

-- A name is one of the kind: a word, as a condition also a comparison in its normal form; a key may have any name.
abbrev pub is_name : MeansKind → List ℕ → Bool
is_name kind.Mode name = is_lower_word name
is_name kind.Condition name = is_lower_word name || is_this (normal_of name) name
is_name kind.Value name = is_lower_word name
is_name kind.Ignore name = is_some_text name

-- the value of access that a word names
abbrev pub access_word : List ℕ → Option Access
access_word text =
    if is_word text (codes "open") then Some Open else if is_word text (codes "closed") then Some Closed else None

-- there is one
abbrev pub is_there : {A : Type 0} → Option A → Bool
is_there None = false
is_there (Some a) = true

-- a value of access that no table needs
abbrev pub is_known : MeansKind → List ℕ → Bool
is_known kind.Value name = is_there (known_access name)
is_known other name = false

-- the name stands for something of the kind before, by rows or without
abbrev pub is_repeated : List MeansRow → MeansKind → List ℕ → Bool
is_repeated before kind name = is_known kind name || is_there (meaning_of kind name before)
