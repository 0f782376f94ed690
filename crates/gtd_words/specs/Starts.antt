-- The pieces of a start's words.
use Rattle.std.specs.Prelude.{ℕ, ◌==◌, ◌&&◌, ◌||◌, not, Bool, true, false, List, [], ◌∷◌, ◌++◌, Option, Some, None}
use Rattle.std.specs.Prelude.{if◌then◌else◌}
use Rattle.gtd_core.specs.declared.start.StartParts.{StartParts}
use Rattle.gtd_ends.specs.Anchors.{anchor_of, is_given}
use Rattle.gtd_ends.specs.declared.anchor.Anchor.{Anchor}
use Rattle.gtd_ends.specs.declared.anchor.Anchor.TheVariants.{Beginning, Day, EveryDay, Place, PlaceBack, TheMonday, Weekdays}
use Rattle.gtd_languages.specs.declared.word.Counted.TheVariants.{AtMinute, AtSecond, FromHour, FromMinute, FromMinuteAnd}
use Rattle.gtd_languages.specs.declared.word.Counted.TheVariants.{FromSecond, FromSecondOf, InWeek, OfHour, OfYear}
use Rattle.gtd_languages.specs.declared.word.Counted.TheVariants.{SecondOfEveryHour, YearAlone}
use Rattle.gtd_languages.specs.declared.word.Fixed.TheVariants.{EachDay, EveryYear, FromBeginning, OfEachMonth, Sharp}
use Rattle.gtd_languages.specs.declared.word.Fixed.TheVariants.{WholeMinute}
use Rattle.gtd_phrases.specs.declared.phrase.Phrase.{Phrase}
use Rattle.gtd_phrases.specs.declared.phrase.Phrase.TheVariants.{BackOf, BeginningOf, DateOf, DateOfEach, DaysOf, MondayOf}
use Rattle.gtd_phrases.specs.declared.phrase.Phrase.TheVariants.{Numbered, OfMonth, PlaceOf, Said}
use Rattle.gtd_phrases.specs.declared.phrase.Piece.{Piece}
use Rattle.gtd_languages.specs.declared.word.Role.{Role}
use Rattle.gtd_languages.specs.declared.word.Role.TheVariants.{From, If, On}

abbrev pub count : Phrase → ℕ → Piece
count phrase n = record { phrase = phrase; number = n }

abbrev pub say : Phrase → Piece
say phrase = count phrase 0

-- A start whose clock, or `all day`, comes later is on its day; otherwise it is from its day.
abbrev pub role_of : Bool → Role
role_of true = On
role_of false = From

-- ---- the day, by what names it, and its month

abbrev pub day_pieces : Bool → Option ℕ → ℕ → List Piece
day_pieces named (Some month) day = count (DateOf named month) day ∷ []
day_pieces named None day = count (DateOfEach named) day ∷ []

-- A place is one of a month, or of each month.
abbrev pub place_month : Option ℕ → List Piece
place_month (Some month) = say (OfMonth month) ∷ []
place_month None = say (Said OfEachMonth) ∷ []

abbrev pub month_pieces : Option ℕ → List Piece
month_pieces (Some month) = say (OfMonth month) ∷ []
month_pieces None = []

abbrev pub beginning_pieces : Option ℕ → List Piece
beginning_pieces (Some month) = say (BeginningOf month) ∷ []
beginning_pieces None = say (Said FromBeginning) ∷ []

abbrev pub anchor_pieces : Bool → Option ℕ → Anchor → List Piece
anchor_pieces named month (Day day) = day_pieces named month day
anchor_pieces named month (Place place) = say (PlaceOf (role_of named) place.0 place.1) ∷ place_month month
anchor_pieces named month (PlaceBack place) = say (BackOf (role_of named) place.0 place.1) ∷ place_month month
anchor_pieces named month (Weekdays weekdays) = say (DaysOf (role_of named) weekdays) ∷ month_pieces month
anchor_pieces named month EveryDay = say (Said EachDay) ∷ month_pieces month
anchor_pieces named month TheMonday = say (MondayOf named) ∷ month_pieces month
anchor_pieces named month Beginning = beginning_pieces month

-- ---- the week and the year

abbrev pub week_pieces : Option ℕ → List Piece
week_pieces None = []
week_pieces (Some week) = count (Numbered InWeek) week ∷ []

-- The year: its number alone after a month, and `of the year` otherwise. Without one, a month or week is one of every year.
abbrev pub year_pieces : Bool → Bool → Option ℕ → List Piece
year_pieces month week (Some year) =
    (if month && not week then count (Numbered YearAlone) year else count (Numbered OfYear) year) ∷ []
year_pieces month week None = if month || week then say (Said EveryYear) ∷ [] else []

-- ---- what must hold too: places that do not name the day, and weekdays

abbrev pub also_place : Option (ℕ × ℕ) → List Piece
also_place None = []
also_place (Some place) = say (PlaceOf If place.0 place.1) ∷ []

abbrev pub place_condition : Anchor → Option (ℕ × ℕ) → List Piece
place_condition (Day day) nth = also_place nth
place_condition anchor nth = []

abbrev pub also_back : Option (ℕ × ℕ) → List Piece
also_back None = []
also_back (Some place) = say (BackOf If place.0 place.1) ∷ []

abbrev pub back_condition : Anchor → Option (ℕ × ℕ) → List Piece
back_condition (Day day) nth_back = also_back nth_back
back_condition (Place place) nth_back = also_back nth_back
back_condition anchor nth_back = []

abbrev pub also_weekdays : ℕ → List Piece
also_weekdays weekdays = if weekdays == 0 then [] else say (DaysOf If weekdays) ∷ []

abbrev pub weekdays_condition : Anchor → ℕ → List Piece
weekdays_condition (Day day) weekdays = also_weekdays weekdays
weekdays_condition (Place place) weekdays = also_weekdays weekdays
weekdays_condition (PlaceBack place) weekdays = also_weekdays weekdays
weekdays_condition anchor weekdays = []

-- ---- the clock

-- What closes an hour and a minute: their second, or that a minute 0 is given.
abbrev pub second_pieces : ℕ → Option ℕ → List Piece
second_pieces minute None = (if minute == 0 then say (Said Sharp) else say (Said WholeMinute)) ∷ []
second_pieces minute (Some second) = count (Numbered AtSecond) second ∷ []

abbrev pub time_pieces : ℕ → ℕ → List Piece
time_pieces hour minute = count (Numbered FromHour) hour ∷ count (Numbered AtMinute) minute ∷ []

abbrev pub hour_pieces : ℕ → Option ℕ → Option ℕ → List Piece
hour_pieces hour (Some minute) second = time_pieces hour minute ++ second_pieces minute second
hour_pieces hour None None = time_pieces hour 0 ++ say (Said WholeMinute) ∷ []
hour_pieces hour None (Some second) = count (Numbered FromSecondOf) second ∷ count (Numbered OfHour) hour ∷ []

abbrev pub minute_pieces : ℕ → Option ℕ → List Piece
minute_pieces minute None = count (Numbered FromMinute) minute ∷ []
minute_pieces minute (Some second) =
    count (Numbered FromMinuteAnd) minute ∷ count (Numbered SecondOfEveryHour) second ∷ []

abbrev pub clock_pieces : Option ℕ → Option ℕ → Option ℕ → List Piece
clock_pieces (Some hour) minute second = hour_pieces hour minute second
clock_pieces None (Some minute) second = minute_pieces minute second
clock_pieces None None (Some second) = count (Numbered FromSecond) second ∷ []
clock_pieces None None None = []

-- ---- the whole

-- The week and the year of a start.
unfoldable pub period_pieces : StartParts → List Piece
period_pieces start = week_pieces start.week ++ year_pieces (is_given start.month) (is_given start.week) start.year

-- What must hold too, if something else names the day.
unfoldable pub condition_pieces : Anchor → StartParts → List Piece
condition_pieces anchor start =
    place_condition anchor start.nth ++ back_condition anchor start.nth_back ++ weekdays_condition anchor start.weekdays

-- A start: its day and its month, the week and the year, what must hold too, and the clock.
abbrev pub pieces_from : Bool → Anchor → StartParts → List Piece
pieces_from named anchor start =
    anchor_pieces named start.month anchor ++ period_pieces start ++ condition_pieces anchor start
    ++ clock_pieces start.hour start.minute start.second

unfoldable pub start_pieces : Bool → StartParts → List Piece
start_pieces named start = pieces_from named (anchor_of start) start
