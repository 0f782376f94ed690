-- Which phrases may follow one another in a line.
use Rattle.std.specs.Prelude.{◌≡◌, ◌≢◌, ℕ, zero, suc, Bool, true, false, List, [], ◌∷◌, ◌++◌, ⊤, ◌⊎◌}
use Rattle.gtd_phrases.specs.Pieces.{figures_of}
use Rattle.gtd_phrases.specs.Ranges.{IsWritten}
use Rattle.gtd_languages.specs.declared.word.Counted.{Counted}
use Rattle.gtd_languages.specs.declared.word.Counted.TheVariants.{AtMinute, AtSecond, DaysLater, EndHour, EndMinute, EndSecond}
use Rattle.gtd_languages.specs.declared.word.Counted.TheVariants.{FromHour, FromMinute, FromMinuteAnd, FromSecond}
use Rattle.gtd_languages.specs.declared.word.Counted.TheVariants.{FromSecondOf, InWeek, OfHour, OfYear, SecondOfEveryHour}
use Rattle.gtd_languages.specs.declared.word.Counted.TheVariants.{YearAlone}
use Rattle.gtd_languages.specs.declared.word.Fixed.TheVariants.{AllDay, EachDay, EveryYear, FromBeginning, Included, NextDay}
use Rattle.gtd_languages.specs.declared.word.Fixed.TheVariants.{OfEachMonth, Sharp, WholeMinute}
use Rattle.gtd_phrases.specs.declared.phrase.Phrase.{Phrase}
use Rattle.gtd_phrases.specs.declared.phrase.Phrase.TheVariants.{Also, BackOf, BeginningOf, DateOf, DateOfEach, DaysOf}
use Rattle.gtd_phrases.specs.declared.phrase.Phrase.TheVariants.{Lasting, MondayOf, Numbered, OfMonth, PlaceOf, Said, UntilDate}
use Rattle.gtd_phrases.specs.declared.phrase.Phrase.TheVariants.{UntilFebruary, UntilHour, UntilWeekday}
use Rattle.gtd_phrases.specs.declared.phrase.Piece.{Piece}
use Rattle.gtd_languages.specs.declared.word.Role.TheVariants.{From, If, On}
use Rattle.gtd_languages.specs.declared.word.Unit.{Unit as TimeUnit}
use Rattle.gtd_languages.specs.declared.word.Word.{Word}
use Rattle.gtd_languages.specs.declared.word.Word.TheVariants.{ExceptIn, OnlyIn, Or}
use Rattle.gtd_languages.specs.declared.word.Unit.TheVariants.{Days, Hours, Minutes, Months, Seconds, Weeks, Years}

-- The places of a line.
pub data Group : Type 0 where
  -- its day
  First : Group
  -- what comes after the day
  Later : Group
  -- the same, where the month is known
  NoMonth : Group
  -- a minute after `from 10:`
  AfterHour : Group
  -- what closes a time
  AfterMinute : Group
  -- the second after `from minute 30 and second `
  AfterMinuteAnd : Group
  -- the hour after `of every minute of hour `
  AfterSecondOf : Group
  -- a minute after `until 06:`
  AfterEndHour : Group
  -- what may come after an end
  AfterEnd : Group
  -- what may come after the day of an end
  AfterEndDay : Group

-- phrases of so many numbers, from this one on
abbrev pub each : (ℕ → Phrase) → ℕ → ℕ → List Phrase
each f n zero = []
each f n (suc count) = f n ∷ each f (suc n) count

-- phrases of so many places, from this one on, and of each weekday
abbrev pub of_places : (ℕ → ℕ → Phrase) → ℕ → ℕ → List Phrase
of_places f n zero = []
of_places f n (suc count) = each (f n) 1 7 ++ of_places f (suc n) count

abbrev pub of_units : (TimeUnit → Phrase) → List Phrase
of_units f = f Years ∷ f Months ∷ f Weeks ∷ f Days ∷ f Hours ∷ f Minutes ∷ f Seconds ∷ []

abbrev pub of_flags : (Bool → Phrase) → List Phrase
of_flags f = f true ∷ f false ∷ []

abbrev pub days_alone : List Phrase
days_alone = Said EachDay ∷ Said FromBeginning ∷ []

abbrev pub first_phrases : List Phrase
first_phrases =
    of_flags DateOfEach ++ (of_flags MondayOf ++ (days_alone ++ (each BeginningOf 1 12 ++ (each (DateOf true) 1 12
    ++ (each (DateOf false) 1 12 ++ (of_places (PlaceOf On) 1 5 ++ (of_places (PlaceOf From) 1 5 ++ (of_places (BackOf On) 1 5
    ++ (of_places (BackOf From) 1 5 ++ (each (DaysOf On) 1 127 ++ each (DaysOf From) 1 127))))))))))

abbrev pub later_alone : List Phrase
later_alone =
    Said OfEachMonth ∷ Said EveryYear ∷ Numbered InWeek ∷ Numbered YearAlone ∷ Numbered OfYear ∷ Numbered FromHour
    ∷ Numbered FromMinute ∷ Numbered FromMinuteAnd ∷ Numbered FromSecond ∷ Numbered FromSecondOf ∷ Said AllDay ∷ []

abbrev pub end_phrases : List Phrase
end_phrases =
    of_flags UntilHour ++ (of_flags UntilFebruary ++ (each (UntilWeekday true) 1 7 ++ (each (UntilWeekday false) 1 7
    ++ (each (UntilDate true) 1 12 ++ each (UntilDate false) 1 12))))

abbrev pub condition_phrases : List Phrase
condition_phrases = of_places (PlaceOf If) 1 5 ++ (of_places (BackOf If) 1 5 ++ each (DaysOf If) 1 127)

abbrev pub no_month_phrases : List Phrase
no_month_phrases = later_alone ++ (of_units Lasting ++ (of_units Also ++ (end_phrases ++ condition_phrases)))

-- the phrases that may stand in a place
abbrev pub members : Group → List Phrase
members First = first_phrases
members Later = each OfMonth 1 12 ++ no_month_phrases
members NoMonth = no_month_phrases
members AfterHour = Numbered AtMinute ∷ []
members AfterMinute = Said WholeMinute ∷ Said Sharp ∷ Numbered AtSecond ∷ []
members AfterMinuteAnd = Numbered SecondOfEveryHour ∷ []
members AfterSecondOf = Numbered OfHour ∷ []
members AfterEndHour = Numbered EndMinute ∷ []
members AfterEnd = Numbered EndSecond ∷ Said NextDay ∷ Numbered DaysLater ∷ []
members AfterEndDay = Said Included ∷ Numbered EndHour ∷ []

-- the place after a phrase
abbrev pub next_counted : Counted → Group
next_counted FromHour = AfterHour
next_counted AtMinute = AfterMinute
next_counted FromMinuteAnd = AfterMinuteAnd
next_counted FromSecondOf = AfterSecondOf
next_counted EndHour = AfterEndHour
next_counted EndMinute = AfterEnd
next_counted EndSecond = AfterEnd
next_counted DaysLater = AfterEnd
next_counted other = Later

abbrev pub next : Phrase → Group
next (Said FromBeginning) = NoMonth
next (Said NextDay) = AfterEnd
next (Said Included) = AfterEnd
next (BeginningOf month) = NoMonth
next (Numbered counted) = next_counted counted
next (UntilHour after) = AfterEndHour
next (UntilWeekday after weekday) = AfterEndDay
next (UntilDate after month) = AfterEndDay
next (UntilFebruary after) = AfterEnd
next other = Later

abbrev pub IsIn : Phrase → List Phrase → Type 0
IsIn phrase [] = ⊥
IsIn phrase (other ∷ others) = (phrase ≡ other) ⊎ IsIn phrase others

-- The pieces stand in an order of the grammar, from this place on.
abbrev pub IsLine : Group → List Piece → Type 0
IsLine group [] = ⊤
IsLine group (piece ∷ pieces) =
    IsIn piece.phrase (members group) × IsWritten (figures_of piece.phrase) piece.number × IsLine (next piece.phrase) pieces

-- ---- ends

-- the phrases with which an end begins, where no duration comes before it
abbrev pub ends_alone : List Phrase
ends_alone = UntilHour false ∷ UntilFebruary false ∷ (each (UntilWeekday false) 1 7 ++ each (UntilDate false) 1 12)

-- The pieces are those of an end, from its first phrase on.
abbrev pub IsEndLine : List Piece → Type 0
IsEndLine [] = ⊥
IsEndLine (piece ∷ pieces) =
    IsIn piece.phrase ends_alone × IsWritten (figures_of piece.phrase) piece.number × IsLine (next piece.phrase) pieces

-- what closes a line that says no end
abbrev pub closers : List Phrase
closers = Said AllDay ∷ (of_units Lasting ++ of_units Also)

-- what closes an end
abbrev pub end_closers : List Phrase
end_closers =
    UntilFebruary false ∷ Said NextDay ∷ Said Included ∷ Numbered EndMinute ∷ Numbered EndSecond ∷ Numbered DaysLater ∷ []

-- ---- the beginnings of lines

-- the words that say what is done with the lines above
abbrev pub IsOperator : Word → Type 0
IsOperator Or = ⊤
IsOperator OnlyIn = ⊤
IsOperator ExceptIn = ⊤
IsOperator other = ⊥

-- A text begins with another byte than a space.
abbrev pub BeginsALine : List ℕ → Type 0
BeginsALine text = (first : ℕ) × (others : List ℕ) × (text ≡ first ∷ others) × (first ≢ 32)
