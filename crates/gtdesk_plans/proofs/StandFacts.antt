-- The words of a command that has a plan all stand for something.
use Rattle.std.proofs.Common.{◌≡◌, ap, List, [], ◌∷◌, Option, Some, None, is_some, ℕ}
use Rattle.std.specs.Prelude.{IsSomeAnd, codes}
use Rattle.clap.specs.Walk.{Row, first_of}
use Rattle.gtd_core.specs.declared.domain.Domain.{Domain}
use Rattle.gtd_core.specs.declared.horizon.Horizon.{Horizon}
use Rattle.gtd_core.specs.declared.second.Sec.{Sec}
use Rattle.gtd_hours_holidays.specs.declared.known_years.KnownYears.{KnownYears}
use Rattle.gtd_hours_loose_tokens.specs.declared.token.DayNames.{DayNames}
use Rattle.gtd_mistakes.specs.declared.rule.Rule.{Rule}
use Rattle.gtdesk_plans.specs.Arguments.{Text}
use Rattle.gtd_phrases.specs.declared.phrase.Language.{Language}
use Rattle.gtdesk_plans.specs.Commands.{asks_of, words_of}
use Rattle.gtdesk_plans.specs.Commands.Conditions as conditions
use Rattle.gtdesk_plans.specs.Commands.Diff as diff
use Rattle.gtdesk_plans.specs.Commands.Faults as faults
use Rattle.gtdesk_plans.specs.Commands.Hours as hours
use Rattle.gtdesk_plans.specs.Commands.Mend as mend
use Rattle.gtdesk_plans.specs.Commands.Now as now
use Rattle.gtdesk_plans.specs.Commands.Picture as picture
use Rattle.gtdesk_plans.specs.Commands.Records as records
use Rattle.gtdesk_plans.specs.Commands.Same as same
use Rattle.gtdesk_plans.specs.Commands.Words as words
use Rattle.gtdesk_words.specs.HoursWords.{HasDomain, IsHoursDomain}
use Rattle.gtdesk_words.specs.Readings.{AllStand, AreStopped, Reading, if_given, word_as}
use Rattle.gtdesk_words.specs.Words.{AreRulesIn, IsDayIn, IsDayWord, IsFromWord, day_names_for, elements_in, language_for}
use Rattle.gtdesk_words.specs.YearsWords.{AreYearsIn, IsYearsWord}
use Rattle.gtdesk_plans.specs.Rows.{text_of}
use Rattle.gtdesk_plans.specs.TextOptions.{AreOptions, clock_texts, option_words}
use Rattle.gtdesk_plans.specs.declared.options.HoursOptions.{HoursOptions}
use Rattle.gtdesk_words.specs.facts.ClockWords.{clocks_stand}
use Rattle.gtdesk_words.specs.facts.Readings.{both_stand, stopped_behind}
use Rattle.gtdesk_words.specs.ClockWords.{clock_words}
use Rattle.gtdesk_words.specs.declared.refusal.WordsRefusal.{WordsRefusal}
use Rattle.gtdesk_plans.specs.DayNames.{AreDayNames}
use Rattle.gtdesk_plans.specs.declared.commands.diff.DiffPlan.{DiffPlan}
use Rattle.gtdesk_plans.specs.declared.commands.faults.FaultsPlan.{FaultsPlan}
use Rattle.gtdesk_plans.specs.declared.commands.now.NowPlan.{NowPlan}
use Rattle.gtdesk_plans.specs.declared.commands.now.NowView.{NowView}
use Rattle.gtdesk_plans.specs.declared.commands.now.ZonePlan.{ZonePlan}
use Rattle.gtdesk_plans.specs.declared.commands.picture.DomainPicturePlan.{DomainPicturePlan}
use Rattle.gtdesk_plans.specs.declared.commands.picture.PictureSubject.{PictureSubject}
use Rattle.gtdesk_plans.specs.declared.commands.same.SamePlan.{SamePlan}
use Rattle.gtdesk_plans.specs.declared.forms.Form.{Form}
use Rattle.gtdesk_plans.specs.declared.forms.Form.TheVariants as form
use Rattle.gtdesk_plans.specs.declared.plans.Plan.{Plan}
use Rattle.gtdesk_words.specs.declared.refusal.WordName.TheVariants as name

some_and : {T : Type 0} (o : Option T) (P : T → Type 0) → IsSomeAnd o P → (x : T) × P x
some_and None P h = absurd h
some_and (Some x) P h = (x, h)

-- ---- words that may be left out

elements_stand : (text : Option Text) (elements : List ℕ) → elements_in text ≡ Some elements
    → AllStand (if_given text (λ t. word_as name.Element (Reading.elements t)))
elements_stand None elements e = tt
elements_stand (Some text) elements e = (ap is_some e, tt)

language_stands : (text : Option Text) (language : Language) → language_for text ≡ Some language
    → AllStand (if_given text (λ t. word_as name.Language (Reading.language t)))
language_stands None language e = tt
language_stands (Some text) language e = (ap is_some e, tt)

day_names_stand : (text : Option Text) (names : DayNames) → day_names_for text ≡ Some names
    → AllStand (if_given text (λ t. word_as name.Names (Reading.day_names t)))
day_names_stand None names e = tt
day_names_stand (Some text) names e = (ap is_some e, tt)

years_stand : (text : Option Text) (years : Option KnownYears) → AreYearsIn text years
    → AllStand (if_given text (λ t. word_as name.Years (Reading.years t)))
years_stand None years are = tt
years_stand (Some text) years are = (some_and years (IsYearsWord text) are, tt)

from_stands : (text : Option Text) (second : Sec) → IsFromWord text second
    → AllStand (if_given text (λ t. word_as name.Moment (Reading.moment t)))
from_stands None second is = tt
from_stands (Some text) second is = ((second, is), tt)

rules_stand : (text : Option Text) (off : List Rule) → AreRulesIn text off
    → AllStand (if_given text (λ t. word_as name.Rule (Reading.rules t)))
rules_stand None off are = tt
rules_stand (Some text) off are = ((off, are), tt)

day_stands : (text : Option Text) (days : Option Horizon) → IsDayIn text days
    → AllStand (if_given text (λ t. word_as name.Day (Reading.day t)))
day_stands None days is = tt
day_stands (Some text) days is = (some_and days (IsDayWord text) is, tt)

-- ---- the options of texts of opening hours

-- a refusal behind what stands before the words for times
pub clocks_stopped : (rows : List Row) (r : WordsRefusal) (names : DayNames) (years : Option KnownYears)
    → AreDayNames rows names → AreYearsIn (first_of (codes "years") rows) years
    → AreStopped (clock_words (clock_texts rows)) r → AreStopped (option_words rows) r
clocks_stopped rows r names years are in_years h =
    stopped_behind _ _ r (day_names_stand (first_of (codes "day-names") rows) names are)
    (stopped_behind _ _ r (years_stand (first_of (codes "years") rows) years in_years) h)

options_stand : (rows : List Row) (o : HoursOptions) → AreOptions rows o → AllStand (option_words rows)
options_stand rows o h =
    both_stand _ _ (day_names_stand (first_of (codes "day-names") rows) o.names h.names)
    (both_stand _ _ (years_stand (first_of (codes "years") rows) o.years h.years)
    (clocks_stand (clock_texts rows) o.clocks h.clocks))

-- ---- each command

pub has_domain : (text : Text) (domain : Domain) → IsHoursDomain text domain → HasDomain text
has_domain text domain is = (is.0, is.1, is.2.fits)

pub view_stands : (rows : List Row) (vehicle : Text) (view : NowView) → now.IsView rows vehicle view
    → AllStand (now.view_words rows vehicle)
view_stands rows vehicle view h =
    ((view.vehicle, h.vehicle_is), elements_stand (first_of (codes "element") rows) view.elements.items h.elements_are)

now_stand : (rows : List Row) (p : NowPlan) → now.IsPlan rows p → AllStand (now.words rows)
now_stand rows p h = ((p.moment.second, h.1), view_stands rows _ p.view h.2)

zone_stand : (rows : List Row) (p : ZonePlan) → now.IsZonePlan rows p → AllStand (now.zone_words rows)
zone_stand rows p h =
    both_stand (now.view_words rows (now.vehicle_word rows)) (word_as name.Zone (Reading.zone (text_of (codes "zone") rows)) ∷ [])
    (view_stands rows (now.vehicle_word rows) p.view h.view_is) (h.names_zone, tt)

same_stand : (rows : List Row) (p : SamePlan) → same.IsPlan rows p → AllStand (same.words rows)
same_stand rows p h =
    (h.0.faultless, (h.1.faultless, from_stands (first_of (codes "from") rows) p.from.second h.2))

same_hours_stand : (rows : List Row) (p : SamePlan) → same.IsHoursPlan rows p → AllStand (same.hours_words rows)
same_hours_stand rows p h =
    (has_domain _ p.first h.0, (has_domain _ p.second h.1, from_stands (first_of (codes "from") rows) p.from.second h.2))

faults_stand : (rows : List Row) (p : FaultsPlan) → faults.IsPlan rows p → AllStand (faults.words rows)
faults_stand rows p h =
    both_stand _ _ (rules_stand (first_of (codes "allow") rows) h.off h.rules)
    (day_stands (first_of (codes "at") rows) h.days h.day)

diff_stand : (rows : List Row) (p : DiffPlan) → diff.IsPlan rows p → AllStand (diff.words rows)
diff_stand rows p h = ((_, h.2.first), ((_, h.2.last), ((p.horizon, h.2), ((p.vehicle, h.3), tt))))

picture_stand : (rows : List Row) (s : PictureSubject) → picture.AreSubject rows s → AllStand (picture.words rows)
picture_stand rows s h =
    (ap is_some h.element, (ap is_some h.direction, ((s.vehicle, h.vehicle), ((s.year, h.year), tt))))

domain_stand : (rows : List Row) (p : DomainPicturePlan) → picture.IsDomainPlan rows p → AllStand (picture.domain_words rows)
domain_stand rows p h = (h.1.faultless, ((p.year, h.2), tt))

pub all_stand : (f : Form) (rows : List Row) (p : Plan) → asks_of f rows p → AllStand (words_of f rows)
all_stand form.Now rows p h = let x = some_and (now.plan_in p) (now.IsPlan rows) h in now_stand rows x.0 x.1
all_stand form.NowIn rows p h = let x = some_and (now.zone_plan_in p) (now.IsZonePlan rows) h in zone_stand rows x.0 x.1
all_stand form.Faults rows p h = let x = some_and (faults.plan_in p) (faults.IsPlan rows) h in faults_stand rows x.0 x.1
all_stand form.Words rows p h =
    let x = some_and (words.plan_in p) (words.IsPlan rows) h in
    (x.1.0.faultless, language_stands (first_of (codes "lang") rows) x.0.language x.1.1)
all_stand form.Hours rows p h =
    let x = some_and (hours.text_plan_in p) (hours.IsTextPlan rows) h in options_stand rows x.0.options x.1.options
all_stand form.HoursOf rows p h = let x = some_and (hours.plan_in p) _ h in (x.1.faultless, tt)
all_stand form.Same rows p h = let x = some_and (same.plan_in p) (same.IsPlan rows) h in same_stand rows x.0 x.1
all_stand form.SameHours rows p h = let x = some_and (same.plan_in p) (same.IsHoursPlan rows) h in same_hours_stand rows x.0 x.1
all_stand form.SameRows rows p h = tt
all_stand form.Diff rows p h = let x = some_and (diff.plan_in p) (diff.IsPlan rows) h in diff_stand rows x.0 x.1
all_stand form.Ask rows p h = tt
all_stand form.Records rows p h =
    let x = some_and (records.plan_in p) (records.IsPlan rows) h in options_stand rows x.0.options x.1.options
all_stand form.Conditions rows p h =
    let x = some_and (conditions.plan_in p) (conditions.IsPlan rows) h in options_stand rows x.0.options x.1.options
all_stand form.Mend rows p h = tt
all_stand form.MendHours rows p h =
    let x = some_and (mend.hours_plan_in p) (mend.IsHoursPlan rows) h in
    day_names_stand (first_of (codes "day-names") rows) x.0.names x.1.1
all_stand form.Picture rows p h =
    let x = some_and (picture.plan_in p) (picture.IsPlan rows) h in picture_stand rows x.0.subject x.1.1
all_stand form.PictureDomain rows p h =
    let x = some_and (picture.domain_plan_in p) (picture.IsDomainPlan rows) h in domain_stand rows x.0 x.1
