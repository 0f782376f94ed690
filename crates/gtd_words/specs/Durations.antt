-- The pieces of a duration's words.
use Rattle.std.specs.Prelude.{ℕ, ◌+◌, ◌==◌, List, [], ◌∷◌, ◌++◌, if◌then◌else◌}
use Rattle.gtd_core.specs.declared.duration.DurationParts.{DurationParts}
use Rattle.gtd_phrases.specs.declared.phrase.Phrase.TheVariants.{Also, Lasting}
use Rattle.gtd_phrases.specs.declared.phrase.Piece.{Piece}
use Rattle.gtd_languages.specs.declared.word.Unit.{Unit as TimeUnit}
use Rattle.gtd_languages.specs.declared.word.Unit.TheVariants.{Days, Hours, Minutes, Months, Seconds, Weeks, Years}
use Rattle.gtd_words.specs.Starts.{count}

-- `for 1 hour`; ` and 2 hours` if a number before it is not 0. A number that is 0 is left out.
abbrev pub number_pieces : ℕ → ℕ → TimeUnit → List Piece
number_pieces before n unit =
    if n == 0 then [] else (if before == 0 then count (Lasting unit) n else count (Also unit) n) ∷ []

abbrev pub date_sum : DurationParts → ℕ
date_sum duration = duration.years + duration.months + duration.weeks + duration.days

abbrev pub clock_sum : DurationParts → ℕ
clock_sum duration = duration.hours + duration.minutes + duration.seconds

unfoldable pub date_pieces : DurationParts → List Piece
date_pieces duration =
    number_pieces 0 duration.years Years ++ number_pieces duration.years duration.months Months
    ++ number_pieces (duration.years + duration.months) duration.weeks Weeks
    ++ number_pieces (duration.years + duration.months + duration.weeks) duration.days Days

unfoldable pub time_pieces : DurationParts → List Piece
time_pieces duration =
    number_pieces (date_sum duration) duration.hours Hours
    ++ number_pieces (date_sum duration + duration.hours) duration.minutes Minutes
    ++ number_pieces (date_sum duration + duration.hours + duration.minutes) duration.seconds Seconds

-- A duration: its numbers with their units, or `for 0 seconds`.
unfoldable pub duration_pieces : DurationParts → List Piece
duration_pieces duration =
    if date_sum duration + clock_sum duration == 0 then count (Lasting Seconds) 0 ∷ []
    else date_pieces duration ++ time_pieces duration
