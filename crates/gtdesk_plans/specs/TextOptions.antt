-- The options with which texts of opening hours are read: `[--strict] [--day-names NAMES] [--holidays FILE] [--years YEARS]
-- [--open-end HH:MM] [--points N] [--sunrise HH:MM] [--sunset HH:MM] [--dawn HH:MM] [--dusk HH:MM]`.
use Rattle.std.specs.Prelude.{◌≡◌, ◌++◌, ◌||◌, Bool, [], ◌∷◌, List, codes, option_map, string_bytes}
use Rattle.clap.specs.Walk.{Row, Rule, first_of}
use Rattle.gtdesk_plans.specs.Arguments.{flag_rule, option_rule}
use Rattle.gtdesk_plans.specs.DayNames.{AreDayNames, day_names_rule, day_names_words}
use Rattle.gtdesk_plans.specs.Rows.{has_value, is_given}
use Rattle.gtdesk_plans.specs.declared.options.HoursOptions.{HoursOptions}
use Rattle.gtdesk_words.specs.ClockWords.{AreClocks, ClockTexts, clock_words}
use Rattle.gtdesk_words.specs.Readings.{Reading, Word, if_given, word_as}
use Rattle.gtdesk_words.specs.YearsWords.{AreYearsIn}
use Rattle.gtdesk_words.specs.declared.refusal.WordName.TheVariants as name

-- the options for times that texts leave open
abbrev pub clock_rules : List Rule
clock_rules =
    option_rule (codes "open-end") ∷ option_rule (codes "points") ∷ option_rule (codes "sunrise") ∷ option_rule (codes "sunset")
    ∷ option_rule (codes "dawn") ∷ option_rule (codes "dusk") ∷ []

abbrev pub option_rules : List Rule
option_rules =
    flag_rule (codes "strict") ∷ day_names_rule ∷ option_rule (codes "holidays") ∷ option_rule (codes "years") ∷ clock_rules

abbrev pub clock_texts : List Row → ClockTexts
clock_texts rows = record {
  open_end = first_of (codes "open-end") rows;
  points = first_of (codes "points") rows;
  sunrise = first_of (codes "sunrise") rows;
  sunset = first_of (codes "sunset") rows;
  dawn = first_of (codes "dawn") rows;
  dusk = first_of (codes "dusk") rows;
}

-- Their words that have to be something.
abbrev pub years_words : List Row → List Word
years_words rows = if_given (first_of (codes "years") rows) (λ text. word_as name.Years (Reading.years text))

abbrev pub option_words : List Row → List Word
option_words rows = day_names_words rows ++ (years_words rows ++ clock_words (clock_texts rows))

-- What they say. The table of holidays is read when the plan is carried out.
pub record AreOptions (rows : List Row) (options : HoursOptions) : Type 0 where
  pub strict : options.strict ≡ is_given (codes "strict") rows
  pub names : AreDayNames rows options.names
  pub holidays : option_map string_bytes options.holidays ≡ first_of (codes "holidays") rows
  pub years : AreYearsIn (first_of (codes "years") rows) options.years
  pub clocks : AreClocks (clock_texts rows) options.clocks

-- Whether any of them is given.
abbrev pub has_clock_options : List Row → Bool
has_clock_options rows =
    has_value (codes "open-end") rows
    || (has_value (codes "points") rows
    || (has_value (codes "sunrise") rows
    || (has_value (codes "sunset") rows || (has_value (codes "dawn") rows || has_value (codes "dusk") rows))))

abbrev pub has_text_options : List Row → Bool
has_text_options rows =
    is_given (codes "strict") rows
    || (has_value (codes "day-names") rows
    || (has_value (codes "holidays") rows || (has_value (codes "years") rows || has_clock_options rows)))
