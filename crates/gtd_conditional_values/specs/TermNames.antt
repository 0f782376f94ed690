-- What a term names: a comparison or a word, or else it is opening hours.
use Rattle.std.specs.Prelude.{ℕ, Bool, ◌&&◌, ◌||◌, not, if◌then◌else◌, List, codes, Option, Some, None}
use Rattle.std.specs.Option.{option_or}
use Rattle.gtd_rows.specs.Columns.{is_word}
use Rattle.gtd_conditional_means.specs.Comparisons.{is_lower_word, normal_of}
use Rattle.gtd_conditional_means.specs.Meanings.{types_of}
use Rattle.gtd_conditional_means.specs.Names.{is_there}
use Rattle.gtd_conditional_means.specs.declared.meaning.MeansKind.TheVariants.{Condition}
use Rattle.gtd_conditional_means.specs.declared.meaning.MeansRow.{MeansRow}

-- the words of opening hours that are written in lower case letters: of states, of days and weeks, and of the sun
abbrev pub is_state_word : List ℕ → Bool
is_state_word word =
    is_word word (codes "open") || is_word word (codes "on") || is_word word (codes "closed") || is_word word (codes "off")
    || is_word word (codes "unknown")

abbrev pub is_day_word : List ℕ → Bool
is_day_word word =
    is_word word (codes "week") || is_word word (codes "easter") || is_word word (codes "day") || is_word word (codes "days")

abbrev pub is_sun_word : List ℕ → Bool
is_sun_word word =
    is_word word (codes "sunrise") || is_word word (codes "sunset") || is_word word (codes "dawn") || is_word word (codes "dusk")

abbrev pub is_hours_word : List ℕ → Bool
is_hours_word word = is_state_word word || is_day_word word || is_sun_word word

-- the term is the word of a condition: it is a word that opening hours do not have, or the table has it
abbrev pub is_condition_word : List MeansRow → List ℕ → Bool
is_condition_word rows term = is_lower_word term && not (is_hours_word term) || is_there (types_of Condition term rows)

-- The name by which a term is looked up: a comparison by its normal form, a word as it is. None, if the term is opening hours.
abbrev pub name_of : List MeansRow → List ℕ → Option (List ℕ)
name_of rows term = option_or (normal_of term) (if is_condition_word rows term then Some term else None)
