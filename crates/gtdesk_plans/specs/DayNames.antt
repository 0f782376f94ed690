-- The option that says in which language short names of weekdays are.
use Rattle.std.specs.Prelude.{◌≡◌, List, Some, codes}
use Rattle.clap.specs.Walk.{Row, Rule, first_of}
use Rattle.gtd_hours_loose_tokens.specs.declared.token.DayNames.{DayNames}
use Rattle.gtdesk_plans.specs.Arguments.{option_rule}
use Rattle.gtdesk_words.specs.Readings.{Reading, Word, if_given, word_as}
use Rattle.gtdesk_words.specs.Words.{day_names_for}
use Rattle.gtdesk_words.specs.declared.refusal.WordName.TheVariants as name

abbrev pub day_names_rule : Rule
day_names_rule = option_rule (codes "day-names")

abbrev pub day_names_words : List Row → List Word
day_names_words rows = if_given (first_of (codes "day-names") rows) (λ text. word_as name.Names (Reading.day_names text))

-- The names that are said, or that nothing is said of them.
abbrev pub AreDayNames : List Row → DayNames → Type 0
AreDayNames rows names = day_names_for (first_of (codes "day-names") rows) ≡ Some names
