-- The years that a word stands for, in which holidays are known: `F-L`, or `F` for one year.
use Rattle.std.specs.Prelude.{◌≡◌, ◌==◌, ◌&&◌, ℕ, Option, Some, None, IsSomeAnd, drop, get_or, if◌then◌else◌, length, take}
use Rattle.gtd_hours_holidays.specs.KnownYears.{AreKnown}
use Rattle.gtd_hours_holidays.specs.declared.known_years.KnownYears.{KnownYears}
use Rattle.gtd_rows.specs.Columns.{number_of}
use Rattle.gtdesk_words.specs.Text.{Text}

-- the first and the last year, if both are numbers
abbrev pub and_last : ℕ → Option ℕ → Option (ℕ × ℕ)
and_last first None = None
and_last first (Some last) = Some (first, last)

abbrev pub both_numbers : Option ℕ → Option ℕ → Option (ℕ × ℕ)
both_numbers None last = None
both_numbers (Some first) last = and_last first last

abbrev pub both_years : Text → Text → Option (ℕ × ℕ)
both_years first last = both_numbers (number_of first) (number_of last)

-- The first and the last year that a text names: four digits each, with a `-` (45) between them; or four digits, which are both.
abbrev pub years_in : Text → Option (ℕ × ℕ)
years_in text =
    if length text == 4 then both_years text text
    else if (length text == 9) && (get_or text 4 0 == 45) then both_years (take 4 text) (take 4 (drop 5 text))
    else None

-- The word stands for these years. Which years there are to be known is said of them: at most 98, from 1802 to 2797.
abbrev pub IsYearsWord : Text → KnownYears → Type 0
IsYearsWord text years = years_in text ≡ Some (years.first, years.last)

-- The word stands for no such years.
abbrev pub AreNoYears : Text → Type 0
AreNoYears text = (first last : ℕ) → years_in text ≡ Some (first, last) → AreKnown first last → ⊥

-- The years of a word that may be left out: then there are none.
abbrev pub AreYearsIn : Option Text → Option KnownYears → Type 0
AreYearsIn None years = years ≡ None
AreYearsIn (Some text) years = IsSomeAnd years (IsYearsWord text)
