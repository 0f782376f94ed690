-- The command `conditions [OPTIONS] TAGS MEANS`, with the options of texts of opening hours.
use Rattle.std.specs.Prelude.{◌≡◌, ◌++◌, [], ◌∷◌, List, Option, Some, None, IsSomeAnd, codes, string_bytes}
use Rattle.clap.specs.Simple.{App}
use Rattle.clap.specs.Walk.{Row}
use Rattle.gtdesk_plans.specs.Arguments.{command_of, word_rule}
use Rattle.gtdesk_words.specs.Readings.{Word}
use Rattle.gtdesk_plans.specs.Rows.{text_of}
use Rattle.gtdesk_plans.specs.TextOptions.{AreOptions, option_rules, option_words}
use Rattle.gtdesk_plans.specs.declared.commands.conditions.ConditionsPlan.{ConditionsPlan}
use Rattle.gtdesk_plans.specs.declared.plans.Plan.{Plan}
use Rattle.gtdesk_plans.specs.declared.plans.Plan.TheVariants as plan

abbrev pub app : App
app = command_of (codes "conditions") (option_rules ++ (word_rule (codes "TAGS") ∷ word_rule (codes "MEANS") ∷ []))

-- The files are read when the plan is carried out, and so is the table of holidays.
abbrev pub words : List Row → List Word
words rows = option_words rows

pub record IsPlan (rows : List Row) (p : ConditionsPlan) : Type 0 where
  pub tags : string_bytes p.tags ≡ text_of (codes "TAGS") rows
  pub means : string_bytes p.means ≡ text_of (codes "MEANS") rows
  pub options : AreOptions rows p.options

abbrev pub plan_in : Plan → Option ConditionsPlan
plan_in (plan.Conditions p) = Some p
plan_in other = None

abbrev pub Asks : List Row → Plan → Type 0
Asks rows p = IsSomeAnd (plan_in p) (IsPlan rows)
