-- The commands `picture FILE ELEMENT DIRECTION VEHICLE YEAR` and `picture-domain DOMAIN YEAR`.
use Rattle.std.specs.Prelude.{◌≡◌, ◌++◌, [], ◌∷◌, List, Option, Some, None, IsSomeAnd, codes, string_bytes}
use Rattle.clap.specs.Simple.{App}
use Rattle.clap.specs.Walk.{Row}
use Rattle.gtd_rows.specs.Columns.{direction_of, number_of}
use Rattle.gtdesk_plans.specs.Arguments.{Text, command_of, word_rule}
use Rattle.gtdesk_words.specs.Readings.{Reading, Word, word_as}
use Rattle.gtdesk_plans.specs.Rows.{text_of}
use Rattle.gtdesk_words.specs.Words.{IsReadDomain, IsVehicleWord, IsYearWord}
use Rattle.gtdesk_plans.specs.declared.commands.picture.DomainPicturePlan.{DomainPicturePlan}
use Rattle.gtdesk_plans.specs.declared.commands.picture.PicturePlan.{PicturePlan}
use Rattle.gtdesk_plans.specs.declared.commands.picture.PictureSubject.{PictureSubject}
use Rattle.gtdesk_plans.specs.declared.plans.OnePlan.TheVariants as one
use Rattle.gtdesk_plans.specs.declared.plans.Plan.{Plan}
use Rattle.gtdesk_plans.specs.declared.plans.Plan.TheVariants as plan
use Rattle.gtdesk_words.specs.declared.refusal.WordName.TheVariants as name

abbrev pub app : App
app =
    command_of (codes "picture")
    (word_rule (codes "FILE") ∷ word_rule (codes "ELEMENT") ∷ word_rule (codes "DIRECTION") ∷ word_rule (codes "VEHICLE")
    ∷ word_rule (codes "YEAR") ∷ [])

abbrev pub words : List Row → List Word
words rows =
    word_as name.Element (Reading.element (text_of (codes "ELEMENT") rows))
    ∷ word_as name.Direction (Reading.direction (text_of (codes "DIRECTION") rows))
    ∷ word_as name.Vehicle (Reading.vehicle (text_of (codes "VEHICLE") rows))
    ∷ word_as name.Year (Reading.year (text_of (codes "YEAR") rows)) ∷ []

-- The words stand for this element, direction, vehicle type and year.
pub record AreSubject (rows : List Row) (subject : PictureSubject) : Type 0 where
  pub element : number_of (text_of (codes "ELEMENT") rows) ≡ Some subject.element
  pub direction : direction_of (text_of (codes "DIRECTION") rows) ≡ Some subject.direction
  pub vehicle : IsVehicleWord (text_of (codes "VEHICLE") rows) subject.vehicle
  pub year : IsYearWord (text_of (codes "YEAR") rows) subject.year

-- The title of the picture of an element: `Element 17, positive, vehicle type 12, 2024 (town.csv)`. Each word is shown as it was
-- given.
abbrev pub title_of : List Row → Text
title_of rows =
    codes "Element " ++ text_of (codes "ELEMENT") rows ++ codes ", " ++ text_of (codes "DIRECTION") rows
    ++ codes ", vehicle type " ++ text_of (codes "VEHICLE") rows ++ codes ", " ++ text_of (codes "YEAR") rows ++ codes " ("
    ++ text_of (codes "FILE") rows ++ codes ")"

abbrev pub IsPlan : List Row → PicturePlan → Type 0
IsPlan rows p =
    (string_bytes p.file ≡ text_of (codes "FILE") rows) × AreSubject rows p.subject × (string_bytes p.title ≡ title_of rows)

abbrev pub plan_in : Plan → Option PicturePlan
plan_in (plan.One (one.Picture p)) = Some p
plan_in other = None

abbrev pub Asks : List Row → Plan → Type 0
Asks rows p = IsSomeAnd (plan_in p) (IsPlan rows)

-- The same of `picture-domain`.
abbrev pub domain_app : App
domain_app = command_of (codes "picture-domain") (word_rule (codes "DOMAIN") ∷ word_rule (codes "YEAR") ∷ [])

abbrev pub domain_words : List Row → List Word
domain_words rows =
    word_as name.Domain (Reading.domain (text_of (codes "DOMAIN") rows))
    ∷ word_as name.Year (Reading.year (text_of (codes "YEAR") rows)) ∷ []

abbrev pub IsDomainPlan : List Row → DomainPicturePlan → Type 0
IsDomainPlan rows p =
    (string_bytes p.title ≡ text_of (codes "DOMAIN") rows) × IsReadDomain (text_of (codes "DOMAIN") rows) p.domain
    × IsYearWord (text_of (codes "YEAR") rows) p.year

abbrev pub domain_plan_in : Plan → Option DomainPicturePlan
domain_plan_in (plan.One (one.DomainPicture p)) = Some p
domain_plan_in other = None

abbrev pub AsksDomain : List Row → Plan → Type 0
AsksDomain rows p = IsSomeAnd (domain_plan_in p) (IsDomainPlan rows)
