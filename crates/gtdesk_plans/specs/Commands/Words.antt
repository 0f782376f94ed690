-- The command `words DOMAIN [--lang LANGUAGE]`.
use Rattle.std.specs.Prelude.{◌≡◌, [], ◌∷◌, List, Option, Some, None, IsSomeAnd, codes}
use Rattle.clap.specs.Simple.{App}
use Rattle.clap.specs.Walk.{Row, first_of}
use Rattle.gtdesk_plans.specs.Arguments.{command_of, option_rule, word_rule}
use Rattle.gtdesk_words.specs.Readings.{Reading, Word, if_given, word_as}
use Rattle.gtdesk_plans.specs.Rows.{text_of}
use Rattle.gtdesk_words.specs.Words.{IsReadDomain, language_for}
use Rattle.gtdesk_plans.specs.declared.commands.words.WordsPlan.{WordsPlan}
use Rattle.gtdesk_plans.specs.declared.plans.OnePlan.TheVariants as one
use Rattle.gtdesk_plans.specs.declared.plans.Plan.{Plan}
use Rattle.gtdesk_plans.specs.declared.plans.Plan.TheVariants as plan
use Rattle.gtdesk_words.specs.declared.refusal.WordName.TheVariants as name

abbrev pub app : App
app = command_of (codes "words") (word_rule (codes "DOMAIN") ∷ option_rule (codes "lang") ∷ [])

abbrev pub words : List Row → List Word
words rows =
    word_as name.Domain (Reading.domain (text_of (codes "DOMAIN") rows))
    ∷ if_given (first_of (codes "lang") rows) (λ text. word_as name.Language (Reading.language text))

abbrev pub IsPlan : List Row → WordsPlan → Type 0
IsPlan rows p =
    IsReadDomain (text_of (codes "DOMAIN") rows) p.domain × (language_for (first_of (codes "lang") rows) ≡ Some p.language)

abbrev pub plan_in : Plan → Option WordsPlan
plan_in (plan.One (one.Words p)) = Some p
plan_in other = None

abbrev pub Asks : List Row → Plan → Type 0
Asks rows p = IsSomeAnd (plan_in p) (IsPlan rows)
