-- What the single words of a command stand for.
use Rattle.std.specs.Prelude.{◌≡◌, ◌≢◌, ◌⊎◌, ◌==◌, ◌*ℤ◌, ℕ, ℤ, pos, List, [], ◌∷◌, Option, Some, None, Ok, IsSomeAnd}
use Rattle.std.specs.Prelude.{codes, if◌then◌else◌}
use Rattle.std.specs.List.{slice_split}
use Rattle.std.specs.Str.{bytes_eq}
use Rattle.gtd_calendar.specs.Read.{date_in}
use Rattle.gtd_mistakes.specs.RuleNames.{name_of}
use Rattle.gtd_mistakes.specs.declared.rule.Rule.{Rule}
use Rattle.gtd_moments.specs.Moments.{moment_in}
use Rattle.gtd_core.specs.Limits.{day_seconds, first_horizon_day}
use Rattle.gtd_core.specs.Parts.{domain_tree}
use Rattle.gtd_core.specs.Whole.{from_day, to_day}
use Rattle.gtd_core.specs.declared.domain.Domain.{Domain}
use Rattle.gtd_core.specs.declared.horizon.Horizon.{Horizon}
use Rattle.gtd_core.specs.declared.second.Sec.{Sec}
use Rattle.gtd_hours_loose_tokens.specs.declared.token.DayNames.{DayNames}
use Rattle.gtd_hours_loose_tokens.specs.declared.token.DayNames.TheVariants as names
use Rattle.gtd_phrases.specs.declared.phrase.Language.{Language}
use Rattle.gtd_phrases.specs.declared.phrase.Language.TheVariants.{English, French, German}
use Rattle.gtd_rows.specs.Columns.{number_of}
use Rattle.gtd_report.specs.Run.{IsTableYear, IsVehicleType}
use Rattle.gtd_text.specs.Reading.{HasNoFault, StandsFor}
use Rattle.gtd_warnings.specs.Days.{AreDaysFrom}
use Rattle.gtdesk_words.specs.Text.{Text}

-- The word stands for a vehicle type.
abbrev pub IsVehicleWord : Text → ℕ → Type 0
IsVehicleWord text vehicle = (number_of text ≡ Some vehicle) × IsVehicleType vehicle

-- The word does not stand for a vehicle type.
abbrev pub IsNoVehicle : Text → Type 0
IsNoVehicle text = (vehicle : ℕ) → number_of text ≡ Some vehicle → IsVehicleType vehicle → ⊥

-- The numbers of texts, in their order, if each is a number.
abbrev pub and_number : Option ℕ → Option (List ℕ) → Option (List ℕ)
and_number None numbers = None
and_number (Some number) None = None
and_number (Some number) (Some numbers) = Some (number ∷ numbers)

abbrev pub numbers_of : List Text → Option (List ℕ)
numbers_of [] = Some []
numbers_of (text ∷ texts) = and_number (number_of text) (numbers_of texts)

-- The parts of a text, which commas separate.
abbrev pub parts_of : Text → List Text
parts_of text = slice_split (λ byte. byte == 44) text

-- The elements that a word names, which may be left out: its numbers, which commas separate. Without it, no element is named.
abbrev pub elements_in : Option Text → Option (List ℕ)
elements_in None = Some []
elements_in (Some text) = numbers_of (parts_of text)

-- The word stands for a year that a picture may be of.
abbrev pub IsYearWord : Text → ℕ → Type 0
IsYearWord text year = (number_of text ≡ Some year) × IsTableYear year

-- The word stands for no such year.
abbrev pub IsNoYear : Text → Type 0
IsNoYear text = (year : ℕ) → number_of text ≡ Some year → IsTableYear year → ⊥

-- The word stands for the domain.
pub record IsReadDomain (text : Text) (domain : Domain) : Type 0 where
  pub stands : StandsFor text (domain_tree domain)
  pub faultless : HasNoFault text

-- The words stand for the first day of the horizon and for the day after its last.
pub record AreDays (from to : Text) (horizon : Horizon) : Type 0 where
  pub first : date_in from ≡ Ok (from_day horizon)
  pub last : date_in to ≡ Ok (to_day horizon)

-- The word, which may be left out, stands for the second: without it, that is 1901-01-01T00:00:00.
abbrev pub IsFromWord : Option Text → Sec → Type 0
IsFromWord None second = second.0 ≡ first_horizon_day *ℤ pos day_seconds
IsFromWord (Some text) second = moment_in text ≡ Ok second

-- The language that a word names.
abbrev pub language_in : Text → Option Language
language_in text =
    if bytes_eq text (codes "en") then Some English
    else if bytes_eq text (codes "de") then Some German
    else if bytes_eq text (codes "fr") then Some French
    else None

-- The language that a word names, which may be left out: then it is English.
abbrev pub language_for : Option Text → Option Language
language_for None = Some English
language_for (Some text) = language_in text

-- What `Di`, `Do` and `So` are in the language that a word names.
abbrev pub day_names_in : Text → Option DayNames
day_names_in text = if bytes_eq text (codes "de") then Some names.German else None

-- The same of a word that may be left out: then that is not said.
abbrev pub day_names_for : Option Text → Option DayNames
day_names_for None = Some names.Unsaid
day_names_for (Some text) = day_names_in text

-- The texts name these rules, in their order.
abbrev pub AreRules : List Text → List Rule → Type 0
AreRules [] [] = Unit {0}
AreRules (text ∷ texts) (rule ∷ rules) = (text ≡ name_of rule) × AreRules texts rules
AreRules texts rules = ⊥

-- One of the texts names no rule.
abbrev pub IsNoRule : Text → Type 0
IsNoRule text = (rule : Rule) → text ≢ name_of rule

abbrev pub HasNoRule : List Text → Type 0
HasNoRule [] = ⊥
HasNoRule (text ∷ texts) = IsNoRule text ⊎ HasNoRule texts

-- The rules that a word names, with commas between them. It may be left out: then it names none.
abbrev pub AreRulesIn : Option Text → List Rule → Type 0
AreRulesIn None rules = rules ≡ []
AreRulesIn (Some text) rules = AreRules (parts_of text) rules

-- The days to look at from the day on that a word stands for.
abbrev pub IsDayWord : Text → Horizon → Type 0
IsDayWord text days = (day : ℤ) × (date_in text ≡ Ok day) × AreDaysFrom day days

-- The word stands for a date, but there are no such days.
abbrev pub IsNoDay : Text → Type 0
IsNoDay text = (day : ℤ) × (date_in text ≡ Ok day) × ((days : Horizon) → AreDaysFrom day days → ⊥)

-- The same of a word that may be left out: then there is no such day.
abbrev pub IsDayIn : Option Text → Option Horizon → Type 0
IsDayIn None days = days ≡ None
IsDayIn (Some text) days = IsSomeAnd days (IsDayWord text)
