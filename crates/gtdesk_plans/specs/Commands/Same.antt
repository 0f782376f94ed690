-- The command `same [--hours] FIRST SECOND [--from MOMENT]`, or `same --file FILE..`.
use Rattle.std.specs.Prelude.{◌≡◌, [], ◌∷◌, List, Option, Some, None, IsSomeAnd, codes, map, string_bytes}
use Rattle.clap.specs.Simple.{App}
use Rattle.clap.specs.Walk.{Row, first_of}
use Rattle.gtdesk_plans.specs.Arguments.{Text, command_of, flag_rule, free_word_rule, option_rule, options_rule}
use Rattle.gtdesk_words.specs.HoursWords.{IsHoursDomain}
use Rattle.gtdesk_words.specs.Readings.{Reading, Word, if_given, word_as}
use Rattle.gtdesk_plans.specs.Rows.{text_of, texts_of}
use Rattle.gtdesk_words.specs.Words.{IsFromWord, IsReadDomain}
use Rattle.gtdesk_plans.specs.declared.commands.same.SamePlan.{SamePlan}
use Rattle.gtdesk_plans.specs.declared.plans.OnePlan.TheVariants as one
use Rattle.gtdesk_plans.specs.declared.plans.Plan.{Plan}
use Rattle.gtdesk_plans.specs.declared.plans.Plan.TheVariants as plan
use Rattle.gtdesk_words.specs.declared.refusal.WordName.TheVariants as name

abbrev pub app : App
app =
    command_of (codes "same")
    (flag_rule (codes "hours") ∷ free_word_rule (codes "FIRST") ∷ free_word_rule (codes "SECOND") ∷ option_rule (codes "from")
    ∷ options_rule (codes "file") ∷ [])

-- Two words that are read alike, and the moment, if it is given.
abbrev pub pair_as : (Text → Reading) → List Row → List Word
pair_as reading rows =
    word_as name.First (reading (text_of (codes "FIRST") rows)) ∷ word_as name.Second (reading (text_of (codes "SECOND") rows))
    ∷ if_given (first_of (codes "from") rows) (λ text. word_as name.Moment (Reading.moment text))

abbrev pub words : List Row → List Word
words rows = pair_as Reading.domain rows

abbrev pub IsPlan : List Row → SamePlan → Type 0
IsPlan rows p =
    IsReadDomain (text_of (codes "FIRST") rows) p.first × IsReadDomain (text_of (codes "SECOND") rows) p.second
    × IsFromWord (first_of (codes "from") rows) p.from.second

abbrev pub plan_in : Plan → Option SamePlan
plan_in (plan.One (one.Same p)) = Some p
plan_in other = None

abbrev pub Asks : List Row → Plan → Type 0
Asks rows p = IsSomeAnd (plan_in p) (IsPlan rows)

-- The same of opening hours.
abbrev pub hours_words : List Row → List Word
hours_words rows = pair_as Reading.hours rows

abbrev pub IsHoursPlan : List Row → SamePlan → Type 0
IsHoursPlan rows p =
    IsHoursDomain (text_of (codes "FIRST") rows) p.first × IsHoursDomain (text_of (codes "SECOND") rows) p.second
    × IsFromWord (first_of (codes "from") rows) p.from.second

abbrev pub AsksHours : List Row → Plan → Type 0
AsksHours rows p = IsSomeAnd (plan_in p) (IsHoursPlan rows)

-- The rows of files.
abbrev pub file_words : List Row → List Word
file_words rows = []

abbrev pub AsksFile : List Row → Plan → Type 0
AsksFile rows (plan.One (one.SameRows files)) = map string_bytes files.items ≡ texts_of (codes "file") rows
AsksFile rows other = ⊥
