-- How rules are written that are no plain hours.
use Rattle.std.specs.Prelude.{ℕ, ◌&&◌, ◌||◌, ◌++◌, not, Bool, true, false, List, [], ◌∷◌, codes, if◌then◌else◌}
use Rattle.gtd_hours.specs.Written.{is_also, is_some_kind, kind_text, link_text}
use Rattle.gtd_hours.specs.declared.hours.Kind.{Kind}
use Rattle.gtd_hours.specs.declared.hours.Modifier.{Modifier}
use Rattle.gtd_hours.specs.declared.hours.Modifier.TheVariants as modifier
use Rattle.gtd_hours.specs.declared.hours.Rule.{Rule}
use Rattle.gtd_hours.specs.declared.hours.Selector.{Selector}
use Rattle.gtd_hours.specs.declared.hours.TimeRange.{TimeRange}
use Rattle.gtd_hours_days.specs.declared.listed.EasterDays.{EasterDays}
use Rattle.gtd_hours_days.specs.declared.listed.Listed.{Listed}
use Rattle.gtd_hours_times.specs.declared.moment.TimeForm.{TimeForm}
use Rattle.gtd_hours_writing.specs.Days.{with_days, with_holidays, with_month_days}
use Rattle.gtd_hours_writing.specs.Joining.{is_nothing, spaced}
use Rattle.gtd_hours_writing.specs.Selecting.{selectors_of}
use Rattle.gtd_hours_writing.specs.Times.{with_forms}
use Rattle.gtd_hours_writing.specs.Years.{years_text}
use Rattle.gtd_hours_writing.specs.declared.classes.Class.TheVariants as class
use Rattle.gtd_hours_writing.specs.declared.rule.MendedRule.{MendedRule}

-- ---- the rule of a rule's own text, of which it is hours of one rule

abbrev pub first_kinds : List Rule → List Kind
first_kinds [] = []
first_kinds (rule ∷ rules) = rule.kinds.items

abbrev pub first_times : List Rule → List TimeRange
first_times [] = []
first_times (rule ∷ rules) = rule.times.items

abbrev pub closes : Modifier → Bool
closes modifier.Closed = true
closes modifier.Open = false

abbrev pub first_closes : List Rule → Bool
first_closes [] = false
first_closes (rule ∷ rules) = closes rule.modifier

abbrev pub kinds_of : MendedRule → List Kind
kinds_of rule = first_kinds rule.own.rules.items

-- ---- days

-- its month days: those of its own text, its ranges that move, and its days of Easter, as they stand in its list
abbrev pub month_days_text : MendedRule → List ℕ
month_days_text rule =
    with_month_days [] rule.month_items.items (selectors_of class.MonthDays (kinds_of rule)) rule.dates.items rule.easter.items

abbrev pub weeks_text : MendedRule → List ℕ
weeks_text rule = kind_text false (selectors_of class.Weeks (kinds_of rule))

abbrev pub weekdays_of : MendedRule → List Selector
weekdays_of rule = selectors_of class.Weekdays (kinds_of rule)

-- its weekdays and holidays: holidays that lead stand before the weekdays, and others among them in one list
abbrev pub days_by : Bool → List Bool → List Selector → List Listed → List ℕ
days_by true order weekdays holidays = spaced (with_holidays [] holidays) (kind_text false weekdays)
days_by false order weekdays holidays = with_days [] order weekdays holidays

abbrev pub days_text : MendedRule → List ℕ
days_text rule = days_by rule.is_led rule.order.items (weekdays_of rule) rule.holidays.items

-- all selectors behind those of years
abbrev pub behind_years : MendedRule → List ℕ
behind_years rule = spaced (spaced (month_days_text rule) (weeks_text rule)) (days_text rule)

-- One year by itself is written as a range if other selectors follow.
abbrev pub with_years : List ℕ → List Bool → List Selector → List ℕ
with_years behind marks years = spaced (years_text (not (is_nothing behind)) marks years) behind

abbrev pub selectors_text : MendedRule → List ℕ
selectors_text rule = with_years (behind_years rule) rule.every.items (selectors_of class.Years (kinds_of rule))

-- ---- words

-- it is neither unknown nor closed
abbrev pub is_open : MendedRule → Bool
is_open rule = not rule.is_unknown && not (first_closes rule.own.rules.items)

abbrev pub is_some_form : List TimeForm → Bool
is_some_form [] = false
is_some_form (x ∷ xs) = true

abbrev pub is_some_holiday : List Listed → Bool
is_some_holiday [] = false
is_some_holiday (x ∷ xs) = true

abbrev pub is_some_selector : List Selector → Bool
is_some_selector [] = false
is_some_selector (x ∷ xs) = true

abbrev pub is_some_easter : List EasterDays → Bool
is_some_easter [] = false
is_some_easter (x ∷ xs) = true

-- it has selectors of days
abbrev pub has_days : MendedRule → Bool
has_days rule =
    is_some_kind (kinds_of rule)
    || (is_some_holiday rule.holidays.items
    || (is_some_selector rule.dates.items || is_some_easter rule.easter.items))

abbrev pub has_times : MendedRule → Bool
has_times rule = is_some_form rule.forms.items

-- The comma of an additional rule would go on with the list that this rule ends in: with its times, if the next rule is times
-- alone; with its selectors, if it has no times.
abbrev pub goes_into : MendedRule → MendedRule → Bool
goes_into rule next = if has_times rule then has_times next && not (has_days next) else has_days rule

abbrev pub needs_word : MendedRule → List MendedRule → Bool
needs_word rule [] = false
needs_word rule (next ∷ rules) = is_also next.link && goes_into rule next

-- An open rule says so where it has a comment, or where a comma would else go on with its list.
abbrev pub says_open : MendedRule → List MendedRule → Bool
says_open rule rules = not (is_nothing rule.comment.items) || needs_word rule rules

abbrev pub word_text : MendedRule → List MendedRule → List ℕ
word_text rule rules =
    if rule.is_unknown then codes "unknown"
    else if first_closes rule.own.rules.items then codes "off"
    else if says_open rule rules then codes "open"
    else []

-- ---- rules

-- An open rule without days and times is `24/7`.
abbrev pub or_always : Bool → List ℕ → List ℕ
or_always is_open spans = if is_open && is_nothing spans then codes "24/7" else spans

abbrev pub spans_text : MendedRule → List ℕ
spans_text rule = or_always (is_open rule) (spaced (selectors_text rule) (with_forms [] rule.forms.items))

-- A rule, where these follow: its selectors, its times, its word and its comment.
abbrev pub rule_text : MendedRule → List MendedRule → List ℕ
rule_text rule rules = spaced (spaced (spans_text rule) (word_text rule rules)) rule.comment.items

abbrev pub more_rules_text : List MendedRule → List ℕ
more_rules_text [] = []
more_rules_text (rule ∷ rules) = (link_text rule.link ++ rule_text rule rules) ++ more_rules_text rules

abbrev pub rules_text : List MendedRule → List ℕ
rules_text [] = []
rules_text (rule ∷ rules) = rule_text rule rules ++ more_rules_text rules
