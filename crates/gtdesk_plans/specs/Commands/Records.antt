-- The command `records [OPTIONS] FILE..`, with the options of texts of opening hours.
use Rattle.std.specs.Prelude.{◌≡◌, ◌++◌, [], ◌∷◌, List, Option, Some, None, IsSomeAnd, codes, map, string_bytes}
use Rattle.clap.specs.Simple.{App}
use Rattle.clap.specs.Walk.{Row}
use Rattle.gtdesk_plans.specs.Arguments.{command_of, words_rule}
use Rattle.gtdesk_words.specs.Readings.{Word}
use Rattle.gtdesk_plans.specs.Rows.{texts_of}
use Rattle.gtdesk_plans.specs.TextOptions.{AreOptions, option_rules, option_words}
use Rattle.gtdesk_plans.specs.declared.commands.records.RecordsPlan.{RecordsPlan}
use Rattle.gtdesk_plans.specs.declared.plans.OnePlan.TheVariants as one
use Rattle.gtdesk_plans.specs.declared.plans.Plan.{Plan}
use Rattle.gtdesk_plans.specs.declared.plans.Plan.TheVariants as plan

abbrev pub app : App
app = command_of (codes "records") (option_rules ++ (words_rule (codes "FILE") ∷ []))

-- The files are read when the plan is carried out, and so is the table of holidays.
abbrev pub words : List Row → List Word
words rows = option_words rows

pub record IsPlan (rows : List Row) (p : RecordsPlan) : Type 0 where
  pub files : map string_bytes p.files.items ≡ texts_of (codes "FILE") rows
  pub options : AreOptions rows p.options

abbrev pub plan_in : Plan → Option RecordsPlan
plan_in (plan.One (one.Records p)) = Some p
plan_in other = None

abbrev pub Asks : List Row → Plan → Type 0
Asks rows p = IsSomeAnd (plan_in p) (IsPlan rows)
