-- The command `now [--closed] [--element N[,N..]] [--why] [--json | --table] FILE.. MOMENT VEHICLE`, or with `--zone NAME FILE..
-- VEHICLE`. Its words are one list for `clap`.
use Rattle.std.specs.Prelude.{◌≡◌, ◌++◌, true, [], ◌∷◌, List, Option, Some, None, Ok, IsSomeAnd, codes, map}
use Rattle.std.specs.Prelude.{string_bytes}
use Rattle.clap.specs.Simple.{App}
use Rattle.clap.specs.Walk.{Row, first_of}
use Rattle.gtd_moments.specs.Moments.{moment_in}
use Rattle.gtd_zones.specs.Zones.{is_zone_name}
use Rattle.gtdesk_plans.specs.Arguments.{Text, command_of, flag_rule, option_rule, words_rule}
use Rattle.gtdesk_plans.specs.Rows.{but_last, from_last, is_given, text_of, texts_of}
use Rattle.gtdesk_plans.specs.declared.commands.now.NowPlan.{NowPlan}
use Rattle.gtdesk_plans.specs.declared.commands.now.NowView.{NowView}
use Rattle.gtdesk_plans.specs.declared.commands.now.ZonePlan.{ZonePlan}
use Rattle.gtdesk_plans.specs.declared.plans.OnePlan.TheVariants as one
use Rattle.gtdesk_plans.specs.declared.plans.Plan.{Plan}
use Rattle.gtdesk_plans.specs.declared.plans.Plan.TheVariants as plan
use Rattle.gtdesk_words.specs.Readings.{Reading, Word, if_given, word_as}
use Rattle.gtdesk_words.specs.Words.{IsVehicleWord, elements_in}
use Rattle.gtdesk_words.specs.declared.refusal.WordName.TheVariants as name

abbrev pub app : App
app =
    command_of (codes "now")
    (words_rule (codes "FILE") ∷ flag_rule (codes "closed") ∷ option_rule (codes "element") ∷ flag_rule (codes "why")
    ∷ flag_rule (codes "json") ∷ flag_rule (codes "table") ∷ option_rule (codes "zone") ∷ [])

-- The word of the vehicle type, which is the last, and that of the moment before it.
abbrev pub vehicle_word : List Row → Text
vehicle_word rows = from_last 0 (texts_of (codes "FILE") rows)

abbrev pub moment_word : List Row → Text
moment_word rows = from_last 1 (texts_of (codes "FILE") rows)

-- What is printed: the word of the vehicle type, and options.
abbrev pub view_words : List Row → Text → List Word
view_words rows vehicle =
    word_as name.Vehicle (Reading.vehicle vehicle)
    ∷ if_given (first_of (codes "element") rows) (λ text. word_as name.Element (Reading.elements text))

pub record IsView (rows : List Row) (vehicle : Text) (view : NowView) : Type 0 where
  pub vehicle_is : IsVehicleWord vehicle view.vehicle
  pub closed_is : view.closed ≡ is_given (codes "closed") rows
  pub elements_are : elements_in (first_of (codes "element") rows) ≡ Some view.elements.items
  pub why_is : view.why ≡ is_given (codes "why") rows
  pub json_is : view.json ≡ is_given (codes "json") rows
  pub table_is : view.table ≡ is_given (codes "table") rows

abbrev pub words : List Row → List Word
words rows =
    word_as name.Moment (Reading.moment (moment_word rows)) ∷ view_words rows (vehicle_word rows)

abbrev pub IsPlan : List Row → NowPlan → Type 0
IsPlan rows p =
    (map string_bytes p.files.items ≡ but_last 2 (texts_of (codes "FILE") rows))
    × (moment_in (moment_word rows) ≡ Ok p.moment.second) × IsView rows (vehicle_word rows) p.view

abbrev pub plan_in : Plan → Option NowPlan
plan_in (plan.One (one.Now p)) = Some p
plan_in other = None

abbrev pub Asks : List Row → Plan → Type 0
Asks rows p = IsSomeAnd (plan_in p) (IsPlan rows)

-- The same by the clock of a time zone, without a moment.
abbrev pub zone_words : List Row → List Word
zone_words rows =
    view_words rows (vehicle_word rows) ++ word_as name.Zone (Reading.zone (text_of (codes "zone") rows)) ∷ []

pub record IsZonePlan (rows : List Row) (p : ZonePlan) : Type 0 where
  pub files_are : map string_bytes p.files.items ≡ but_last 1 (texts_of (codes "FILE") rows)
  pub zone_is : string_bytes p.zone ≡ text_of (codes "zone") rows
  pub names_zone : is_zone_name (text_of (codes "zone") rows) ≡ true
  pub view_is : IsView rows (vehicle_word rows) p.view

abbrev pub zone_plan_in : Plan → Option ZonePlan
zone_plan_in (plan.NowIn p) = Some p
zone_plan_in other = None

abbrev pub AsksIn : List Row → Plan → Type 0
AsksIn rows p = IsSomeAnd (zone_plan_in p) (IsZonePlan rows)
