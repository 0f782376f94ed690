-- What is shown below the line of a fault: indented lines.
use Rattle.std.specs.Prelude.{◌≡◌, ◌<◌, ◌≤◌, ◌+◌, ◌-◌, ◌++◌, ℕ, suc, zero, Bool, true, false, List, [], ◌∷◌, codes}
use Rattle.std.specs.Prelude.{decimal, drop, get_or, length, map, take, flat_map, if◌then◌else◌, nat_eq, nat_le, nat_lt}
use Rattle.std.specs.Prelude.{Option, Some, None}
use Rattle.gtd_records.specs.declared.fault.RecordFault.{RecordFault}
use Rattle.gtd_records.specs.declared.fault.RecordFault.TheVariants as fault
use Rattle.gtd_faults.specs.Hints.{first_line, hint_line, hint_of}
use Rattle.csv.specs.Reading.{default_config, records, strip_bom}
use Rattle.gtd_rows.specs.Columns.{Fields}
use Rattle.gtd_faults.specs.Places.{field_of, row_text}
use Rattle.gtd_faults.specs.Printable.{printable, shown_byte}
use Rattle.gtd_faults.specs.declared.snippet.Snippet.{Snippet}
use Rattle.gtd_faults.specs.declared.snippet.Snippet.TheVariants as snippet
use Rattle.gtd_faults.specs.declared.hint.Hint.{Hint}
use Rattle.gtd_faults.specs.declared.stretch.Stretch.{Stretch}

-- A text that takes more columns than these is cut: before the place and from it on, no more than these are left.
abbrev pub most_columns : ℕ
most_columns = 100

abbrev pub columns_before : ℕ
columns_before = 40

abbrev pub columns_after : ℕ
columns_after = 50

-- how many columns a byte takes
abbrev pub width : ℕ → ℕ
width byte = length (shown_byte byte)

-- how many bytes of a text, from its first on, fit into so many columns
abbrev pub fit : ℕ → List ℕ → ℕ
fit columns [] = 0
fit columns (byte ∷ rest) = if nat_le (width byte) columns then suc (fit (columns - width byte) rest) else 0

-- how many of its first n bytes, from their last back, fit into so many columns
abbrev pub fit_back : ℕ → List ℕ → ℕ → ℕ
fit_back columns text zero = 0
fit_back columns text (suc n) =
    if nat_le (width (get_or text n 0)) columns then suc (fit_back (columns - width (get_or text n 0)) text n) else 0

-- all of a text fits
abbrev pub is_short : List ℕ → Bool
is_short text = nat_eq (fit most_columns text) (length text)

-- how many bytes before the place are shown, and from it on
abbrev pub count_before : List ℕ → ℕ → ℕ
count_before text place = if is_short text then place else fit_back columns_before text place

abbrev pub count_after : List ℕ → ℕ → ℕ
count_after text place = if is_short text then length text - place else fit columns_after (drop place text)

-- the stretch of a text around a place: these bytes before it and from it on, and whether more are left out on a side
pub record IsAround (text : List ℕ) (place : ℕ) (stretch : Stretch) : Type 0 where
  pub before : stretch.before.now ≡ take (count_before text place) (drop (place - count_before text place) text)
  pub after : stretch.after.now ≡ take (count_after text place) (drop place text)
  pub cut_before : stretch.cut_before ≡ nat_lt (count_before text place) place
  pub cut_after : stretch.cut_after ≡ nat_lt (place + count_after text place) (length text)

-- dots for what is left out
abbrev pub dots : Bool → List ℕ
dots true = codes "..."
dots false = []

-- a stretch as it is shown
abbrev pub stretch_text : Stretch → List ℕ
stretch_text s = dots s.cut_before ++ printable s.before.now ++ printable s.after.now ++ dots s.cut_after

-- as many spaces as a text has columns
abbrev pub blanks : List ℕ → List ℕ
blanks text = map (λ (column : ℕ). 32) text

-- a caret below the first byte after the place: as many spaces before it as columns are shown before that byte
abbrev pub caret_text : Stretch → List ℕ
caret_text s = blanks (dots s.cut_before) ++ flat_map (λ (byte : ℕ). blanks (shown_byte byte)) s.before.now ++ codes "^"

-- the headers that a file may have
abbrev pub expected_text : List ℕ
expected_text = codes "element,direction,vehicle,domain (or vehicles)"

-- nothing; the stretch of a field around a place, with a caret; the first line of a row, with the number of its fields; or the
-- first line of a file without a header, with its hint
abbrev pub snippet_text : Snippet → List ℕ
snippet_text snippet.Nothing = []
snippet_text (snippet.Field field) = codes "    " ++ stretch_text field ++ codes "\n    " ++ caret_text field ++ codes "\n"
snippet_text (snippet.Row found fields) =
    codes "    found:    " ++ (stretch_text found ++ (codes "\n    fields:   " ++ (decimal fields ++ codes "\n")))
snippet_text (snippet.Header found expected hint) =
    codes "    found:    "
    ++ (stretch_text found ++ (codes "\n    expected: " ++ (expected.now ++ (codes "\n" ++ hint_line hint))))

-- the byte at the place around which a field is shown; 0 if there is none
abbrev pub byte_at : Snippet → ℕ
byte_at (snippet.Field field) = get_or field.after.now 0 0
byte_at other = 0

-- What is shown of a field is the stretch around a place; nothing, if there is no such field or it ends before the place.
abbrev pub IsOfField : Option (List ℕ) → ℕ → Snippet → Type 0
IsOfField None place shown = shown ≡ snippet.Nothing
IsOfField (Some field) place snippet.Nothing = length field < place
IsOfField (Some field) place (snippet.Field stretch) = (place ≤ length field) × IsAround field place stretch
IsOfField (Some field) place (snippet.Row found fields) = ⊥
IsOfField (Some field) place (snippet.Header found expected hint) = ⊥

-- What is shown of the first of these rows is its first line, from its first byte on, and the number of its fields; nothing, if
-- there is none.
abbrev pub IsOfRow : List Fields → List ℕ → Snippet → Type 0
IsOfRow [] line shown = shown ≡ snippet.Nothing
IsOfRow (fields ∷ rows) line (snippet.Row found count) = IsAround line 0 found × (count ≡ length fields)
IsOfRow (fields ∷ rows) line shown = ⊥

-- what is shown of the row with this number of a file with these bytes
abbrev pub IsOfRowAt : List ℕ → ℕ → Snippet → Type 0
IsOfRowAt bytes row shown =
    IsOfRow (drop row (records default_config (strip_bom bytes))) (first_line (row_text bytes row)) shown

-- what is shown of a first line that is no header: its stretch from its first byte on, the header that is expected, and a hint
abbrev pub IsOfHeader : List ℕ → List ℕ → Option Hint → Snippet → Type 0
IsOfHeader line text told (snippet.Header found expected hint) =
    IsAround line 0 found × (expected.now ≡ text) × (hint ≡ told)
IsOfHeader line text told shown = ⊥

-- What is shown below the line of a fault of a file with these bytes: the field in the column at fault, around the place in
-- a domain or from its first byte on; a row with too few or too many fields; if the file has no header, its first line, and the
-- hint for it; otherwise nothing.
abbrev pub IsSnippet : List ℕ → RecordFault → Snippet → Type 0
IsSnippet bytes (fault.FieldCount row) shown = IsOfRowAt bytes row shown
IsSnippet bytes (fault.Element row) shown = IsOfField (field_of bytes row 0) 0 shown
IsSnippet bytes (fault.Direction row) shown = IsOfField (field_of bytes row 1) 0 shown
IsSnippet bytes (fault.Vehicle row) shown = IsOfField (field_of bytes row 2) 0 shown
IsSnippet bytes (fault.Domain row why) shown = IsOfField (field_of bytes row 3) why.place shown
IsSnippet bytes fault.Header shown = IsOfHeader (first_line bytes) expected_text (hint_of (first_line bytes)) shown
IsSnippet bytes why shown = shown ≡ snippet.Nothing
