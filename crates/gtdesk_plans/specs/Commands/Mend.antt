-- The command `mend FILE`, or `mend hours [--day-names NAMES] TEXT`.
use Rattle.std.specs.Prelude.{◌≡◌, [], ◌∷◌, List, Option, Some, None, IsSomeAnd, codes, string_bytes}
use Rattle.clap.specs.Simple.{App}
use Rattle.clap.specs.Walk.{Row}
use Rattle.gtdesk_plans.specs.Arguments.{command_of, free_word_rule, word_rule}
use Rattle.gtdesk_plans.specs.DayNames.{AreDayNames, day_names_rule, day_names_words}
use Rattle.gtdesk_plans.specs.Rows.{text_of}
use Rattle.gtdesk_plans.specs.declared.commands.mend.MendHoursPlan.{MendHoursPlan}
use Rattle.gtdesk_plans.specs.declared.plans.OnePlan.TheVariants as one
use Rattle.gtdesk_plans.specs.declared.plans.Plan.{Plan}
use Rattle.gtdesk_plans.specs.declared.plans.Plan.TheVariants as plan
use Rattle.gtdesk_words.specs.Readings.{Word}

abbrev pub app : App
app = command_of (codes "mend") (word_rule (codes "FILE") ∷ free_word_rule (codes "TEXT") ∷ day_names_rule ∷ [])

abbrev pub words : List Row → List Word
words rows = []

abbrev pub Asks : List Row → Plan → Type 0
Asks rows (plan.One (one.Mend file)) = string_bytes file ≡ text_of (codes "FILE") rows
Asks rows other = ⊥

-- The same of a text of opening hours, which is read when the plan is carried out.
abbrev pub hours_words : List Row → List Word
hours_words rows = day_names_words rows

abbrev pub IsHoursPlan : List Row → MendHoursPlan → Type 0
IsHoursPlan rows p = (string_bytes p.text ≡ text_of (codes "TEXT") rows) × AreDayNames rows p.names

abbrev pub hours_plan_in : Plan → Option MendHoursPlan
hours_plan_in (plan.One (one.MendHours p)) = Some p
hours_plan_in other = None

abbrev pub AsksHours : List Row → Plan → Type 0
AsksHours rows p = IsSomeAnd (hours_plan_in p) (IsHoursPlan rows)
