-- The command `faults [--warn] [--allow RULE[,RULE..]] [--at DAY] FILE..`.
use Rattle.std.specs.Prelude.{◌≡◌, ◌++◌, Bool, true, false, [], ◌∷◌, List, Option, Some, None, IsSomeAnd, codes, map}
use Rattle.std.specs.Prelude.{string_bytes}
use Rattle.clap.specs.Simple.{App}
use Rattle.clap.specs.Walk.{Row, first_of}
use Rattle.gtd_core.specs.declared.horizon.Horizon.{Horizon}
use Rattle.gtd_mistakes.specs.declared.rule.Rule.{Rule}
use Rattle.gtd_warnings.specs.declared.file.Asked.{Asked}
use Rattle.gtdesk_plans.specs.Arguments.{command_of, flag_rule, option_rule, words_rule}
use Rattle.gtdesk_plans.specs.Rows.{is_given, texts_of}
use Rattle.gtdesk_plans.specs.declared.commands.faults.FaultsPlan.{FaultsPlan}
use Rattle.gtdesk_plans.specs.declared.plans.OnePlan.TheVariants as one
use Rattle.gtdesk_plans.specs.declared.plans.Plan.{Plan}
use Rattle.gtdesk_plans.specs.declared.plans.Plan.TheVariants as plan
use Rattle.gtdesk_words.specs.Readings.{Reading, Word, if_given, word_as}
use Rattle.gtdesk_words.specs.Words.{AreRulesIn, IsDayIn}
use Rattle.gtdesk_words.specs.declared.refusal.WordName.TheVariants as name

abbrev pub app : App
app =
    command_of (codes "faults")
    (flag_rule (codes "warn") ∷ option_rule (codes "allow") ∷ option_rule (codes "at") ∷ words_rule (codes "FILE") ∷ [])

abbrev pub words : List Row → List Word
words rows =
    if_given (first_of (codes "allow") rows) (λ text. word_as name.Rule (Reading.rules text))
    ++ if_given (first_of (codes "at") rows) (λ text. word_as name.Day (Reading.day text))

-- Warnings are asked for exactly if the option is given: without those of these rules, and about these days.
abbrev pub IsAsked : Bool → List Rule → Option Horizon → Option Asked → Type 0
IsAsked true off days asked = IsSomeAnd asked (λ a. (a.off.items ≡ off) × (a.days ≡ days))
IsAsked false off days asked = asked ≡ None

pub record IsPlan (rows : List Row) (p : FaultsPlan) : Type 0 where
  pub files : map string_bytes p.files.items ≡ texts_of (codes "FILE") rows
  pub off : List Rule
  pub days : Option Horizon
  pub rules : AreRulesIn (first_of (codes "allow") rows) off
  pub day : IsDayIn (first_of (codes "at") rows) days
  pub asked : IsAsked (is_given (codes "warn") rows) off days p.asked

abbrev pub plan_in : Plan → Option FaultsPlan
plan_in (plan.One (one.Faults p)) = Some p
plan_in other = None

abbrev pub Asks : List Row → Plan → Type 0
Asks rows p = IsSomeAnd (plan_in p) (IsPlan rows)
