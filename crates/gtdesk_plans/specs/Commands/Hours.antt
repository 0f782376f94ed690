-- The command `hours [OPTIONS] TEXT`, with the options of texts, or `hours --of DOMAIN`.
use Rattle.std.specs.Prelude.{◌≡◌, ◌++◌, [], ◌∷◌, List, Option, Some, None, IsSomeAnd, codes, string_bytes}
use Rattle.clap.specs.Simple.{App}
use Rattle.clap.specs.Walk.{Row}
use Rattle.gtd_core.specs.declared.domain.Domain.{Domain}
use Rattle.gtdesk_plans.specs.Arguments.{command_of, free_word_rule, option_rule}
use Rattle.gtdesk_words.specs.Readings.{Reading, Word, word_as}
use Rattle.gtdesk_plans.specs.Rows.{text_of}
use Rattle.gtdesk_words.specs.Words.{IsReadDomain}
use Rattle.gtdesk_plans.specs.TextOptions.{AreOptions, option_rules, option_words}
use Rattle.gtdesk_plans.specs.declared.commands.hours.HoursPlan.{HoursPlan}
use Rattle.gtdesk_plans.specs.declared.plans.OnePlan.TheVariants as one
use Rattle.gtdesk_plans.specs.declared.plans.Plan.{Plan}
use Rattle.gtdesk_plans.specs.declared.plans.Plan.TheVariants as plan
use Rattle.gtdesk_words.specs.declared.refusal.WordName.TheVariants as name

abbrev pub app : App
app =
    command_of (codes "hours")
    (option_rules ++ (free_word_rule (codes "TEXT") ∷ option_rule (codes "of") ∷ []))

-- The text is read when the plan is carried out, and so is the table of holidays.
abbrev pub words : List Row → List Word
words rows = option_words rows

pub record IsTextPlan (rows : List Row) (p : HoursPlan) : Type 0 where
  pub text : string_bytes p.text ≡ text_of (codes "TEXT") rows
  pub options : AreOptions rows p.options

abbrev pub text_plan_in : Plan → Option HoursPlan
text_plan_in (plan.One (one.DomainOf p)) = Some p
text_plan_in other = None

abbrev pub Asks : List Row → Plan → Type 0
Asks rows p = IsSomeAnd (text_plan_in p) (IsTextPlan rows)

-- The same for a domain.
abbrev pub words_of : List Row → List Word
words_of rows = word_as name.Domain (Reading.domain (text_of (codes "of") rows)) ∷ []

abbrev pub plan_in : Plan → Option Domain
plan_in (plan.One (one.HoursOf domain)) = Some domain
plan_in other = None

abbrev pub AsksOf : List Row → Plan → Type 0
AsksOf rows p = IsSomeAnd (plan_in p) (IsReadDomain (text_of (codes "of") rows))
