-- The command `diff OLD NEW FROM TO VEHICLE [--rows] [--summary]`.
use Rattle.std.specs.Prelude.{◌≡◌, [], ◌∷◌, List, Option, Some, None, IsSomeAnd, codes, string_bytes}
use Rattle.clap.specs.Simple.{App}
use Rattle.clap.specs.Walk.{Row}
use Rattle.gtdesk_plans.specs.Arguments.{command_of, flag_rule, word_rule}
use Rattle.gtdesk_words.specs.Readings.{Reading, Word, word_as}
use Rattle.gtdesk_plans.specs.Rows.{is_given, text_of}
use Rattle.gtdesk_words.specs.Words.{AreDays, IsVehicleWord}
use Rattle.gtdesk_plans.specs.declared.commands.diff.DiffPlan.{DiffPlan}
use Rattle.gtdesk_plans.specs.declared.plans.Plan.{Plan}
use Rattle.gtdesk_plans.specs.declared.plans.Plan.TheVariants as plan
use Rattle.gtdesk_words.specs.declared.refusal.WordName.TheVariants as name

abbrev pub app : App
app =
    command_of (codes "diff")
    (word_rule (codes "OLD") ∷ word_rule (codes "NEW") ∷ word_rule (codes "FROM") ∷ word_rule (codes "TO")
    ∷ word_rule (codes "VEHICLE") ∷ flag_rule (codes "rows") ∷ flag_rule (codes "summary") ∷ [])

abbrev pub words : List Row → List Word
words rows =
    word_as name.From (Reading.date (text_of (codes "FROM") rows)) ∷ word_as name.To (Reading.date (text_of (codes "TO") rows))
    ∷ word_as name.To (Reading.days (text_of (codes "FROM") rows) (text_of (codes "TO") rows))
    ∷ word_as name.Vehicle (Reading.vehicle (text_of (codes "VEHICLE") rows)) ∷ []

abbrev pub IsPlan : List Row → DiffPlan → Type 0
IsPlan rows p =
    (string_bytes p.old ≡ text_of (codes "OLD") rows) × (string_bytes p.new ≡ text_of (codes "NEW") rows)
    × AreDays (text_of (codes "FROM") rows) (text_of (codes "TO") rows) p.horizon
    × IsVehicleWord (text_of (codes "VEHICLE") rows) p.vehicle × (p.rows ≡ is_given (codes "rows") rows)
    × (p.summary ≡ is_given (codes "summary") rows)

abbrev pub plan_in : Plan → Option DiffPlan
plan_in (plan.Diff p) = Some p
plan_in other = None

abbrev pub Asks : List Row → Plan → Type 0
Asks rows p = IsSomeAnd (plan_in p) (IsPlan rows)
