-- The rows of a table of holidays.
use Rattle.std.specs.Prelude.{◌≡◌, ℕ, Bool, true, false, if◌then◌else◌, List, [], ◌∷◌, codes, Option, Some, None}
use Rattle.std.specs.Prelude.{Result, Ok, Err, ℤ, pos, ◌+ℤ◌, ◌≤ℤ◌}
use Rattle.gtd_rows.specs.Columns.{Fields, is_word}
use Rattle.gtd_hours_holidays.specs.Dates.{IsDayText}
use Rattle.gtd_hours_holidays.specs.declared.fault.HolidaysFault.{HolidaysFault}
use Rattle.gtd_hours_holidays.specs.declared.fault.HolidaysFault.TheVariants as fault
use Rattle.gtd_hours_holidays.specs.declared.row.HolidayKind.{HolidayKind}
use Rattle.gtd_hours_holidays.specs.declared.row.HolidayKind.TheVariants.{Public, School}
use Rattle.gtd_hours_holidays.specs.declared.row.HolidayRow.{HolidayRow}

-- the last day of a row: the first one if the field is empty, and otherwise a date from it on, at most 36,599 days later
abbrev pub IsLastDay : ℤ → List ℕ → ℤ → Type 0
IsLastDay first [] last = last ≡ first
IsLastDay first (b ∷ text) last = IsDayText (b ∷ text) last × (first ≤ℤ last) × (last ≤ℤ (first +ℤ pos 36_599))

-- the kind that a word names, and whether the row covers its days
abbrev pub word_of : List ℕ → Option (HolidayKind × Bool)
word_of text =
    if is_word text (codes "PH") then Some (Public, false)
    else if is_word text (codes "SH") then Some (School, false)
    else if is_word text (codes "PH-covered") then Some (Public, true)
    else if is_word text (codes "SH-covered") then Some (School, true)
    else None

-- what is wrong with the fields of the row with this number, from the left
abbrev pub IsFieldFault : ℕ → List ℕ → List ℕ → List ℕ → HolidaysFault → Type 0
IsFieldFault number first last kind (fault.First row) = (row ≡ number) × ((n : ℤ) → IsDayText first n → ⊥)
IsFieldFault number first last kind (fault.Last row) =
    (row ≡ number) × (a : ℤ) × IsDayText first a × ((n : ℤ) → IsLastDay a last n → ⊥)
IsFieldFault number first last kind (fault.Kind row) =
    (row ≡ number) × (a : ℤ) × (b : ℤ) × IsDayText first a × IsLastDay a last b × (word_of kind ≡ None)
IsFieldFault number first last kind why = ⊥

-- what the fields of a row say, the last of which is not read
abbrev pub IsFullRow : ℕ → List ℕ → List ℕ → List ℕ → Result HolidayRow HolidaysFault → Type 0
IsFullRow number first last kind (Ok row) =
    IsDayText first row.first × IsLastDay row.first last row.last × (word_of kind ≡ Some (row.kind, row.covers))
IsFullRow number first last kind (Err why) = IsFieldFault number first last kind why

-- the row with this number says this, or has this first fault
abbrev pub IsRow : ℕ → Fields → Result HolidayRow HolidaysFault → Type 0
IsRow number (first ∷ last ∷ kind ∷ name ∷ []) answer = IsFullRow number first last kind answer
IsRow number _ answer = answer ≡ Err (fault.FieldCount number)
