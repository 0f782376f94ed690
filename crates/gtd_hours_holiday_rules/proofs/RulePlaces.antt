-- Each rule has a place for each of its holidays and its days of Easter, its order has its holidays, and the list of its month
-- days its ranges that move and days of Easter: the lists grow together.
use Rattle.std.proofs.Common.{◌≡◌, ◌∙◌, ◌+◌, ap, ℕ, zero, suc, List, [], ◌∷◌, ◌++◌, Bool, true, false, length, map, refl, sym}
use Rattle.std.proofs.Common.{subst, arith, length-append, replicate}
use Rattle.std.specs.Prelude.{if◌then◌else◌}
use Rattle.gtd_hours_holiday_rules.specs.Reading.{HasParts}
use Rattle.gtd_hours_holiday_rules.specs.Rules.{HavePlaces, Said, begins_rule, begun, easter_in, holidays_in}
use Rattle.gtd_hours_holiday_rules.specs.Rules.{link_behind, moving_in, or_also, rules_from, said_by, with_date, with_easter}
use Rattle.gtd_hours_holiday_rules.specs.Rules.{with_holiday, with_item, with_month_day}
use Rattle.gtd_hours.specs.declared.hours.Link.{Link}
use Rattle.gtd_hours.specs.declared.hours.Link.TheVariants as link
use Rattle.gtd_hours.specs.declared.hours.Selector.{Selector}
use Rattle.gtd_hours_dated.specs.declared.more.MonthItem.{MonthItem}
use Rattle.gtd_hours_dated.specs.declared.more.MonthItem.TheVariants as month_item
use Rattle.gtd_hours_days.specs.declared.listed.EasterDays.{EasterDays}
use Rattle.gtd_hours_days.specs.declared.listed.Listed.{Listed}
use Rattle.gtd_hours_items.specs.declared.items.Item.{Item}
use Rattle.gtd_hours_holiday_rules.specs.declared.parts.Part.{Part}
use Rattle.gtd_hours_roles.specs.declared.role.Role.{Role}
use Rattle.gtd_hours_roles.specs.declared.role.Role.TheVariants as role
use Rattle.gtd_hours_holiday_rules.specs.declared.text.HolidayText.{HolidayText}
use Rattle.gtd_hours_moving.specs.Words.{stretch}

both_more : {A : Type 0} (places : List ℕ) (days : List A) (place : ℕ) (x : A) → length places ≡ length days
    → length (places ++ place ∷ []) ≡ length (days ++ x ∷ [])
both_more places days place x e =
    omega (arith, e, length-append places (place ∷ []), length-append days (x ∷ []))

none_own : (count : ℕ) → holidays_in (replicate count false) ≡ 0
none_own zero = refl
none_own (suc count) = none_own count

own_more : (order : List Bool) (count : ℕ) → holidays_in (order ++ replicate count false) ≡ holidays_in order
own_more [] count = none_own count
own_more (true ∷ order) count = ap suc (own_more order count)
own_more (false ∷ order) count = own_more order count

one_more : (order : List Bool) → holidays_in (order ++ true ∷ []) ≡ suc (holidays_in order)
one_more [] = refl
one_more (true ∷ order) = ap suc (one_more order)
one_more (false ∷ order) = one_more order

order_more : {A : Type 0} (order : List Bool) (days : List A) (x : A) → holidays_in order ≡ length days
    → holidays_in (order ++ true ∷ []) ≡ length (days ++ x ∷ [])
order_more order days x e = omega (arith, e, one_more order, length-append days (x ∷ []))

-- an item more in a list of month days
moving_more : (items : List MonthItem) (i : MonthItem) → moving_in (items ++ i ∷ []) ≡ moving_in items + moving_in (i ∷ [])
moving_more [] i = omega arith
moving_more (month_item.Own ∷ items) i = moving_more items i
moving_more (month_item.Moving ∷ items) i = omega (arith, moving_more items i)
moving_more (month_item.Easter ∷ items) i = moving_more items i

easter_more : (items : List MonthItem) (i : MonthItem) → easter_in (items ++ i ∷ []) ≡ easter_in items + easter_in (i ∷ [])
easter_more [] i = omega arith
easter_more (month_item.Own ∷ items) i = easter_more items i
easter_more (month_item.Moving ∷ items) i = easter_more items i
easter_more (month_item.Easter ∷ items) i = omega (arith, easter_more items i)

-- places for each holiday and for each day of Easter, an order with the holidays, and a list with all other month days
abbrev HasPlaces : Said → Type 0
HasPlaces rule =
    (length rule.places ≡ length rule.holidays) × (length rule.easter_places ≡ length rule.easter)
    × (holidays_in rule.order ≡ length rule.holidays) × (moving_in rule.month_items ≡ length rule.dates)
    × (easter_in rule.month_items ≡ length rule.easter)

with_one : (rule : Said) (h : Listed) (place : ℕ) → HasPlaces rule → HasPlaces (with_holiday rule h place)
with_one rule h place e =
    (both_more rule.places rule.holidays place h e.0, e.1, order_more rule.order rule.holidays h e.2, e.3, e.4)

own_day : (rule : Said) (bytes : List ℕ) → HasPlaces rule → HasPlaces (with_month_day rule bytes)
own_day rule bytes e = (
  e.0,
  e.1,
  e.2,
  omega (arith, e.3, moving_more rule.month_items month_item.Own),
  omega (arith, e.4, easter_more rule.month_items month_item.Own),
)

moving_day : (rule : Said) (days : Selector) → HasPlaces rule → HasPlaces (with_date rule days)
moving_day rule days e = (
  e.0,
  e.1,
  e.2,
  omega (arith, e.3, moving_more rule.month_items month_item.Moving, length-append rule.dates (days ∷ [])),
  omega (arith, e.4, easter_more rule.month_items month_item.Moving),
)

easter_day : (rule : Said) (days : EasterDays) (place : ℕ) → HasPlaces rule → HasPlaces (with_easter rule days place)
easter_day rule days place e = (
  e.0,
  both_more rule.easter_places rule.easter place days e.1,
  e.2,
  omega (arith, e.3, moving_more rule.month_items month_item.Easter),
  omega (arith, e.4, easter_more rule.month_items month_item.Easter, length-append rule.easter (days ∷ [])),
)

none_yet : (link : Link) → HasPlaces (begun link)
none_yet link = (refl, refl, refl, refl, refl)

item_placed : (text : List ℕ) (rule : Said) (r : Role) (item : Item) → HasPlaces rule → HasPlaces (with_item text rule r item)
item_placed text rule role.Kept item e = e
item_placed text rule (role.Weekdays count) item e = (e.0, e.1, own_more rule.order count ∙ e.2, e.3, e.4)
item_placed text rule role.MonthDay item e = own_day rule (stretch text item.from item.to ++ 32 ∷ []) e
item_placed text rule role.Year item e = e
item_placed text rule (role.Every place) item e = e
item_placed text rule (role.Leading h) item e = with_one rule h item.from e
item_placed text rule (role.Listed h) item e = with_one rule h item.from e
item_placed text rule role.Gone item e = e
item_placed text rule role.Unwritten item e = e
item_placed text rule (role.Dated days) item e = moving_day rule days e
item_placed text rule (role.Known days place) item e = easter_day rule days place e
item_placed text rule role.Undated item e = e
item_placed text rule role.Doubtful item e = e
item_placed text rule role.Misfit item e = e
item_placed text rule (role.Begins link) item e = e
item_placed text rule role.Fallback item e = e
item_placed text rule role.UnknownWord item e = e
item_placed text rule role.Silent item e = e
item_placed text rule role.Remark item e = e
item_placed text rule role.UnknownComment item e = e

either : (b : Bool) (xs ys : List Said) → HavePlaces xs → HavePlaces ys → HavePlaces (if b then xs else ys)
either true xs ys p q = p
either false xs ys p q = q

rules_placed : (text : List ℕ) (rule : Said) (parts : List Part) → HasPlaces rule → HavePlaces (rules_from text rule parts)
rules_placed text rule [] e = (e.0, e.1, e.2, e.3, e.4, tt)
rules_placed text rule (p ∷ parts) e =
    either (begins_rule (link_behind p.role)) _ _ (
      e.0,
      e.1,
      e.2,
      e.3,
      e.4,
      rules_placed text (begun (or_also (link_behind p.role))) parts (none_yet (or_also (link_behind p.role))),
    )
    (rules_placed text (with_item text rule p.role p.item) parts (item_placed text rule p.role p.item e))

pub places : (text : List ℕ) (parts : List Part) (read : HolidayText) → HasParts text parts read
    → HavePlaces (map said_by read.rules.items)
places text parts read has = subst HavePlaces (sym has.rules) (rules_placed text _ parts (none_yet link.Instead))
