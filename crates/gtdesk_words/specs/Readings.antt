-- What a word of a command has to be, and why it is not that.
use Rattle.std.specs.Prelude.{◌≡◌, ◌⊎◌, ℤ, ℕ, true, false, List, [], ◌∷◌, Option, Some, None, Ok, Err, IsSome}
use Rattle.gtd_calendar.specs.Read.{date_in}
use Rattle.gtd_calendar.specs.declared.stamp.StampFault.{StampFault}
use Rattle.gtd_core.specs.Horizons.{IsHorizonFault}
use Rattle.gtd_core.specs.declared.fault.TextFault.{TextFault}
use Rattle.gtd_core.specs.declared.horizon.Horizon.{Horizon}
use Rattle.gtd_core.specs.declared.horizon.HorizonFault.{HorizonFault}
use Rattle.gtd_core.specs.declared.second.Sec.{Sec}
use Rattle.gtd_hours_holidays.specs.declared.known_years.KnownYears.{KnownYears}
use Rattle.gtd_moments.specs.Moments.{moment_in}
use Rattle.gtd_rows.specs.Columns.{direction_of, number_of}
use Rattle.gtd_text.specs.Reading.{HasNoFault, IsFault}
use Rattle.gtd_zones.specs.Zones.{is_zone_name}
use Rattle.gtdesk_words.specs.ClockTexts.{event_in, open_end_in, points_in}
use Rattle.gtdesk_words.specs.Text.{Text}
use Rattle.gtdesk_words.specs.HoursWords.{HasDomain, IsNoDomainOf}
use Rattle.gtd_mistakes.specs.declared.rule.Rule.{Rule}
use Rattle.gtdesk_words.specs.Words.{AreDays, AreRules, HasNoRule, IsDayWord, IsNoDay, IsNoVehicle, IsNoYear, IsVehicleWord}
use Rattle.gtdesk_words.specs.Words.{IsYearWord, day_names_in, language_in, numbers_of, parts_of}
use Rattle.gtdesk_words.specs.YearsWords.{AreNoYears, IsYearsWord}
use Rattle.gtdesk_words.specs.declared.refusal.NoDomain.{NoDomain}
use Rattle.gtdesk_words.specs.declared.refusal.Reason.{Reason}
use Rattle.gtdesk_words.specs.declared.refusal.Reason.TheVariants as reason
use Rattle.gtdesk_words.specs.declared.refusal.WordFault.{WordFault}
use Rattle.gtdesk_words.specs.declared.refusal.WordName.{WordName}
use Rattle.gtdesk_words.specs.declared.refusal.WordsRefusal.{WordsRefusal}
use Rattle.gtdesk_words.specs.declared.refusal.WordsRefusal.TheVariants as refusal

-- What a word has to be: the number of an element, or such numbers with commas between them; a direction; a vehicle type; a year;
-- a moment; a date; a date that makes a horizon with the date before it; a time domain; opening hours that have one; a language;
-- a language of weekdays; years in which holidays are known; the minute of an open end; how long a point of time lasts; the
-- minute of an event of the sun; rules; a day; the name of a time zone.
pub data Reading : Type 0 where
  element : (text : Text) → Reading
  elements : (text : Text) → Reading
  direction : (text : Text) → Reading
  vehicle : (text : Text) → Reading
  year : (text : Text) → Reading
  moment : (text : Text) → Reading
  date : (text : Text) → Reading
  days : (from to : Text) → Reading
  domain : (text : Text) → Reading
  hours : (text : Text) → Reading
  language : (text : Text) → Reading
  day_names : (text : Text) → Reading
  years : (text : Text) → Reading
  open_end : (text : Text) → Reading
  points : (text : Text) → Reading
  event : (text : Text) → Reading
  rules : (text : Text) → Reading
  day : (text : Text) → Reading
  zone : (text : Text) → Reading

-- The word is that.
abbrev pub Stands : Reading → Type 0
Stands (Reading.element text) = IsSome (number_of text)
Stands (Reading.elements text) = IsSome (numbers_of (parts_of text))
Stands (Reading.direction text) = IsSome (direction_of text)
Stands (Reading.vehicle text) = (code : ℕ) × IsVehicleWord text code
Stands (Reading.year text) = (number : ℕ) × IsYearWord text number
Stands (Reading.moment text) = (second : Sec) × (moment_in text ≡ Ok second)
Stands (Reading.date text) = (day : ℤ) × (date_in text ≡ Ok day)
Stands (Reading.days from to) = (horizon : Horizon) × AreDays from to horizon
Stands (Reading.domain text) = HasNoFault text
Stands (Reading.hours text) = HasDomain text
Stands (Reading.language text) = IsSome (language_in text)
Stands (Reading.day_names text) = IsSome (day_names_in text)
Stands (Reading.years text) = (years : KnownYears) × IsYearsWord text years
Stands (Reading.open_end text) = IsSome (open_end_in text)
Stands (Reading.points text) = IsSome (points_in text)
Stands (Reading.event text) = IsSome (event_in text)
Stands (Reading.rules text) = (rules : List Rule) × AreRules (parts_of text) rules
Stands (Reading.day text) = (days : Horizon) × IsDayWord text days
Stands (Reading.zone text) = is_zone_name text ≡ true

-- Why it is not.
abbrev pub IsReason : Reading → Reason → Type 0
IsReason (Reading.element text) why = (why ≡ reason.Element) × (number_of text ≡ None)
IsReason (Reading.elements text) why = (why ≡ reason.Element) × (numbers_of (parts_of text) ≡ None)
IsReason (Reading.direction text) why = (why ≡ reason.Direction) × (direction_of text ≡ None)
IsReason (Reading.vehicle text) why = (why ≡ reason.Vehicle) × IsNoVehicle text
IsReason (Reading.year text) why = (why ≡ reason.Year) × IsNoYear text
IsReason (Reading.moment text) why = (fault : StampFault) × (why ≡ reason.Moment fault) × (moment_in text ≡ Err fault)
IsReason (Reading.date text) why = (fault : StampFault) × (why ≡ reason.Date fault) × (date_in text ≡ Err fault)
IsReason (Reading.days from to) why =
    (fault : HorizonFault) × (first : ℤ) × (last : ℤ) × (why ≡ reason.Horizon fault) × (date_in from ≡ Ok first)
    × (date_in to ≡ Ok last) × IsHorizonFault fault first last
IsReason (Reading.domain text) why = (fault : TextFault) × (why ≡ reason.Domain fault) × IsFault text fault
IsReason (Reading.hours text) why = (none : NoDomain) × (why ≡ reason.Hours none) × IsNoDomainOf text none
IsReason (Reading.language text) why = (why ≡ reason.Language) × (language_in text ≡ None)
IsReason (Reading.day_names text) why = (why ≡ reason.DayNames) × (day_names_in text ≡ None)
IsReason (Reading.years text) why = (why ≡ reason.Years) × AreNoYears text
IsReason (Reading.open_end text) why = (why ≡ reason.OpenEnd) × (open_end_in text ≡ None)
IsReason (Reading.points text) why = (why ≡ reason.Points) × (points_in text ≡ None)
IsReason (Reading.event text) why = (why ≡ reason.Clock) × (event_in text ≡ None)
IsReason (Reading.rules text) why = (why ≡ reason.Rule) × HasNoRule (parts_of text)
IsReason (Reading.zone text) why = (why ≡ reason.Zone) × (is_zone_name text ≡ false)
IsReason (Reading.day text) why =
    ((fault : StampFault) × (why ≡ reason.Date fault) × (date_in text ≡ Err fault)) ⊎ ((why ≡ reason.Day) × IsNoDay text)

-- A word of a command, and what it has to be.
pub record Word : Type 0 where
  pub name : WordName
  pub reading : Reading

abbrev pub word_as : WordName → Reading → Word
word_as name reading = record { name = name; reading = reading }

-- The word of an option, if it is given.
abbrev pub if_given : Option Text → (Text → Word) → List Word
if_given None word = []
if_given (Some text) word = word text ∷ []

-- All words are what they have to be.
abbrev pub AllStand : List Word → Type 0
AllStand [] = Unit {0}
AllStand (word ∷ words) = Stands word.reading × AllStand words

-- The word is not what it has to be, as the fault says.
abbrev pub IsFaultOf : Word → WordFault → Type 0
IsFaultOf word fault = (fault.word ≡ word.name) × IsReason word.reading fault.why

-- The fault is that of the first of these words that is not what it has to be.
abbrev pub IsFirstFault : List Word → WordFault → Type 0
IsFirstFault [] fault = ⊥
IsFirstFault (word ∷ words) fault = IsFaultOf word fault ⊎ (Stands word.reading × IsFirstFault words fault)

-- The refusal is for that word, or of memory.
abbrev pub AreStopped : List Word → WordsRefusal → Type 0
AreStopped words (refusal.Usage told meant) = ⊥
AreStopped words (refusal.Word fault) = IsFirstFault words fault
AreStopped words refusal.Memory = Unit {0}
