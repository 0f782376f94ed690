-- The pieces of an end's words, and what follows the words of a start.
use Rattle.std.specs.Prelude.{ℕ, ◌/◌, ◌%◌, ◌==◌, Bool, true, false, List, [], ◌∷◌, ◌++◌, Option, Some, None, if◌then◌else◌}
use Rattle.gtd_core.specs.declared.start.StartParts.{StartParts}
use Rattle.gtd_core.specs.declared.duration.DurationParts.{DurationParts}
use Rattle.gtd_ends.specs.Endings.{ending, is_all_day, is_written, usual}
use Rattle.gtd_ends.specs.declared.end.End.{End}
use Rattle.gtd_ends.specs.declared.end.End.TheVariants.{Clock, Weekday, Date, WithWeekday, WithDate, WithFebruary}
use Rattle.gtd_phrases.specs.Pieces.{text}
use Rattle.gtd_languages.specs.declared.word.Counted.TheVariants.{DaysLater, EndHour, EndMinute, EndSecond}
use Rattle.gtd_languages.specs.declared.word.Fixed.TheVariants.{AllDay, Included, NextDay}
use Rattle.gtd_phrases.specs.declared.phrase.Language.{Language}
use Rattle.gtd_phrases.specs.declared.phrase.Phrase.TheVariants.{Numbered, Said, UntilDate, UntilFebruary, UntilHour}
use Rattle.gtd_phrases.specs.declared.phrase.Phrase.TheVariants.{UntilWeekday}
use Rattle.gtd_phrases.specs.declared.phrase.Piece.{Piece}
use Rattle.gtd_words.specs.Durations.{duration_pieces}
use Rattle.gtd_words.specs.Starts.{count, say}

-- the minute and the second of a second of the day; a second 0 is left out
abbrev pub minute_of_end : ℕ → List Piece
minute_of_end second =
    count (Numbered EndMinute) (second / 60 % 60)
    ∷ (if second % 60 == 0 then [] else count (Numbered EndSecond) (second % 60) ∷ [])

abbrev pub day_after : ℕ → List Piece
day_after days =
    if days == 0 then [] else ((if days == 1 then say (Said NextDay) else count (Numbered DaysLater) days) ∷ [])

-- a day and the time on it, or a day that is included
abbrev pub time_on : Piece → ℕ → List Piece
time_on day second = day ∷ count (Numbered EndHour) (second / 3600) ∷ minute_of_end second

abbrev pub included : Piece → List Piece
included day = day ∷ say (Said Included) ∷ []

-- a time so many days later
abbrev pub time_after : Bool → ℕ × ℕ → List Piece
time_after after end = count (UntilHour after) (end.1 / 3600) ∷ (minute_of_end end.1 ++ day_after end.0)

-- An end, alone or after a duration.
unfoldable pub until_pieces : Bool → End → List Piece
until_pieces after (Clock end) = time_after after end
until_pieces after (Weekday end) = time_on (say (UntilWeekday after end.0)) end.1
until_pieces after (WithWeekday end) = included (say (UntilWeekday after end))
until_pieces after (Date end) = time_on (count (UntilDate after end.0) end.1) end.2
until_pieces after (WithDate end) = included (count (UntilDate after end.0) end.1)
until_pieces after WithFebruary = say (UntilFebruary after) ∷ []

-- `until 06:00 the next day`
abbrev pub until_words : Language → End → List ℕ
until_words language end = text language (until_pieces false end)

-- The duration, if no end is known; the end, and before it the duration if it is not written in the usual way.
abbrev pub tail_pieces : StartParts → DurationParts → Option End → List Piece
tail_pieces start duration None = duration_pieces duration
tail_pieces start duration (Some end) =
    if is_written duration (usual start end) then until_pieces false end
    else duration_pieces duration ++ until_pieces true end

unfoldable pub rest_pieces : StartParts → DurationParts → List Piece
rest_pieces start duration =
    if is_all_day start duration then say (Said AllDay) ∷ [] else tail_pieces start duration (ending start duration)
