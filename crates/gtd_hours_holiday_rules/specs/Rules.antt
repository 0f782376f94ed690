-- The rules of a text, each with its own text of plain hours, its holidays, and what else is said of it.
use Rattle.std.specs.List.{prefix_len}
use Rattle.std.specs.Prelude.{◌≡◌, ⊤, length, not, replicate, ℕ, suc, Bool, true, false, List}
use Rattle.std.specs.Prelude.{[], ◌∷◌, ◌++◌, Option, Some, None, codes, map, if◌then◌else◌}
use Rattle.gtd_hours.specs.declared.hours.Link.{Link}
use Rattle.gtd_hours.specs.declared.hours.Link.TheVariants as link
use Rattle.gtd_hours.specs.declared.hours.Selector.{Selector}
use Rattle.gtd_hours_dated.specs.declared.more.MonthItem.{MonthItem}
use Rattle.gtd_hours_dated.specs.declared.more.MonthItem.TheVariants as month_item
use Rattle.gtd_hours_days.specs.declared.listed.EasterDays.{EasterDays}
use Rattle.gtd_hours_days.specs.declared.listed.Listed.{Listed}
use Rattle.gtd_hours_items.specs.declared.items.Item.{Item}
use Rattle.gtd_hours_holiday_rules.specs.declared.parts.Part.{Part}
use Rattle.gtd_hours_roles.specs.declared.role.Role.{Role}
use Rattle.gtd_hours_roles.specs.declared.role.Role.TheVariants as role
use Rattle.gtd_hours_holiday_rules.specs.declared.rules.Cut.{Cut}
use Rattle.gtd_hours_holiday_rules.specs.declared.rules.HolidayRule.{HolidayRule}
use Rattle.gtd_hours_moving.specs.Words.{stretch}

-- What a rule says, apart from how it is kept in memory.
pub record Said : Type 0 where
  pub link : Link
  pub text : List ℕ
  pub is_led : Bool
  pub holidays : List Listed
  pub places : List ℕ
  pub order : List Bool
  pub month_items : List MonthItem
  pub dates : List Selector
  pub easter : List EasterDays
  pub easter_places : List ℕ
  pub every : List Bool
  pub every_place : Option ℕ
  pub unknown : Option ℕ
  pub remark : Option ℕ

abbrev pub said_by : HolidayRule → Said
said_by rule = record {
  link = rule.link;
  text = rule.text.items;
  is_led = rule.is_led;
  holidays = rule.holidays.items;
  places = rule.places.items;
  order = rule.order.items;
  month_items = rule.month_items.items;
  dates = rule.dates.items;
  easter = rule.easter.items;
  easter_places = rule.easter_places.items;
  every = rule.every.items;
  every_place = rule.every_place;
  unknown = rule.unknown;
  remark = rule.remark;
}

-- A rule begins, with this link.
abbrev pub begun : Link → Said
begun link = record {
  link = link;
  text = [];
  is_led = false;
  holidays = [];
  places = [];
  order = [];
  month_items = [];
  dates = [];
  easter = [];
  easter_places = [];
  every = [];
  every_place = None;
  unknown = None;
  remark = None;
}

abbrev pub with_text : Said → List ℕ → Said
with_text rule bytes = record rule { text = rule.text ++ bytes }

-- so many of its own weekday selectors more
abbrev pub with_weekdays : Said → List ℕ → ℕ → Said
with_weekdays rule bytes count = record (with_text rule bytes) { order = rule.order ++ replicate count false }

-- one of its own selectors of month days more
abbrev pub with_month_day : Said → List ℕ → Said
with_month_day rule bytes = record (with_text rule bytes) { month_items = rule.month_items ++ month_item.Own ∷ [] }

abbrev pub with_holiday : Said → Listed → ℕ → Said
with_holiday rule h place = record rule {
  holidays = rule.holidays ++ h ∷ [];
  places = rule.places ++ place ∷ [];
  order = rule.order ++ true ∷ [];
}

abbrev pub with_date : Said → Selector → Said
with_date rule days = record rule {
  month_items = rule.month_items ++ month_item.Moving ∷ [];
  dates = rule.dates ++ days ∷ [];
}

abbrev pub with_easter : Said → EasterDays → ℕ → Said
with_easter rule days place = record rule {
  month_items = rule.month_items ++ month_item.Easter ∷ [];
  easter = rule.easter ++ days ∷ [];
  easter_places = rule.easter_places ++ place ∷ [];
}

abbrev pub with_leading : Said → Listed → ℕ → Said
with_leading rule h place = record (with_holiday rule h place) { is_led = true }

-- one year more, which ends as it is written
abbrev pub with_year : Said → List ℕ → Said
with_year rule bytes = record (with_text rule bytes) { every = rule.every ++ false ∷ [] }

-- the first place that is given
abbrev pub or_place : Option ℕ → ℕ → Option ℕ
or_place None place = Some place
or_place (Some first) place = Some first

-- years without a last one, as far as 2799
abbrev pub every_text : List ℕ → Item → ℕ → List ℕ
every_text text item place = stretch text item.from place ++ codes "-2799" ++ stretch text place item.to

-- one list of years more, which has no last one: its slash stands here
abbrev pub with_every : Said → List ℕ → ℕ → Said
with_every rule bytes place = record (with_text rule bytes) {
  every = rule.every ++ true ∷ [];
  every_place = or_place rule.every_place place;
}

-- An item with this role goes on with a rule: its bytes and a space (32) and how many weekday selectors begin there, or that one
-- of month days does; its holiday, its range of days that moves, its days of Easter, or the place where it makes the rule unknown
-- or remarks on it.
abbrev pub with_item : List ℕ → Said → Role → Item → Said
with_item text rule role.Kept item = with_text rule (stretch text item.from item.to ++ 32 ∷ [])
with_item text rule (role.Weekdays count) item = with_weekdays rule (stretch text item.from item.to ++ 32 ∷ []) count
with_item text rule role.MonthDay item = with_month_day rule (stretch text item.from item.to ++ 32 ∷ [])
with_item text rule role.Year item = with_year rule (stretch text item.from item.to ++ 32 ∷ [])
with_item text rule (role.Every place) item = with_every rule (every_text text item place ++ 32 ∷ []) place
with_item text rule (role.Leading h) item = with_leading rule h item.from
with_item text rule (role.Listed h) item = with_holiday rule h item.from
with_item text rule (role.Dated days) item = with_date rule days
with_item text rule (role.Known days place) item = with_easter rule days place
with_item text rule role.UnknownWord item = record rule { unknown = Some item.from }
with_item text rule role.UnknownComment item = record rule { unknown = Some item.from }
with_item text rule role.Remark item = record rule { remark = Some item.from }
with_item text rule r item = rule

-- the text of a rule of which nothing is left
abbrev pub text_or_on : List ℕ → List ℕ
text_or_on [] = codes "on"
text_or_on (byte ∷ bytes) = byte ∷ bytes

-- The rule ends.
abbrev pub ended : Said → Said
ended rule = record rule { text = text_or_on rule.text }

-- The link of a rule that begins behind an item with this role, if one begins there.
abbrev pub link_behind : Role → Option Link
link_behind (role.Begins l) = Some l
link_behind role.Fallback = Some link.Fallback
link_behind r = None

abbrev pub begins_rule : Option Link → Bool
begins_rule (Some l) = true
begins_rule None = false

abbrev pub or_also : Option Link → Link
or_also (Some l) = l
or_also None = link.Also

-- The rules of the parts that are left, where a rule has come so far.
abbrev pub rules_from : List ℕ → Said → List Part → List Said
rules_from text rule [] = ended rule ∷ []
rules_from text rule (part ∷ parts) =
    if begins_rule (link_behind part.role) then ended rule ∷ rules_from text (begun (or_also (link_behind part.role))) parts
    else rules_from text (with_item text rule part.role part.item) parts

abbrev pub rules_of : List ℕ → List Part → List Said
rules_of text parts = rules_from text (begun link.Instead) parts

-- how many holidays an order has
abbrev pub holidays_in : List Bool → ℕ
holidays_in [] = 0
holidays_in (true ∷ order) = suc (holidays_in order)
holidays_in (false ∷ order) = holidays_in order

-- how many ranges that move a list of month days has, and how often days of Easter
abbrev pub moving_in : List MonthItem → ℕ
moving_in [] = 0
moving_in (month_item.Own ∷ items) = moving_in items
moving_in (month_item.Moving ∷ items) = suc (moving_in items)
moving_in (month_item.Easter ∷ items) = moving_in items

abbrev pub easter_in : List MonthItem → ℕ
easter_in [] = 0
easter_in (month_item.Own ∷ items) = easter_in items
easter_in (month_item.Moving ∷ items) = easter_in items
easter_in (month_item.Easter ∷ items) = suc (easter_in items)

-- Each of the rules has a place for each of its holidays, and of its days of Easter; its order has as many holidays as it, and
-- the list of its month days as many ranges that move and days of Easter.
abbrev pub HavePlaces : List Said → Type 0
HavePlaces [] = ⊤
HavePlaces (rule ∷ rules) =
    (length rule.places ≡ length rule.holidays) × (length rule.easter_places ≡ length rule.easter)
    × (holidays_in rule.order ≡ length rule.holidays) × (moving_in rule.month_items ≡ length rule.dates)
    × (easter_in rule.month_items ≡ length rule.easter) × HavePlaces rules

-- how many of a rule's own weekday selectors stand before the first holiday of its order
abbrev pub before_holiday : List Bool → ℕ
before_holiday order = prefix_len not order

-- ---- as the code has come so far

-- The rules that have ended, and those of the last one and the parts that are left.
abbrev pub all_rules : List ℕ → Cut → List Part → List Said
all_rules text cut parts = map said_by cut.ended.items ++ rules_from text (said_by cut.last) parts
