-- The command `ask FILE`.
use Rattle.std.specs.Prelude.{◌≡◌, [], ◌∷◌, List, codes, string_bytes}
use Rattle.clap.specs.Simple.{App}
use Rattle.clap.specs.Walk.{Row}
use Rattle.gtdesk_plans.specs.Arguments.{command_of, word_rule}
use Rattle.gtdesk_words.specs.Readings.{Word}
use Rattle.gtdesk_plans.specs.Rows.{text_of}
use Rattle.gtdesk_plans.specs.declared.plans.Plan.{Plan}
use Rattle.gtdesk_plans.specs.declared.plans.Plan.TheVariants as plan

abbrev pub app : App
app = command_of (codes "ask") (word_rule (codes "FILE") ∷ [])

abbrev pub words : List Row → List Word
words rows = []

abbrev pub Asks : List Row → Plan → Type 0
Asks rows (plan.Ask file) = string_bytes file ≡ text_of (codes "FILE") rows
Asks rows other = ⊥
