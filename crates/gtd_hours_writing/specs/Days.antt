-- How holidays and days of Easter are written.
use Rattle.std.specs.Prelude.{ℕ, ◌++◌, Bool, false, List, [], ◌∷◌, codes, drop, take, unsigned_abs}
use Rattle.std.specs.Int.{is_negative}
use Rattle.gtd_hours.specs.Written.{end_text, kind_text, offset_text}
use Rattle.gtd_hours.specs.declared.hours.Selector.{Selector}
use Rattle.gtd_hours_dated.specs.declared.more.MonthItem.{MonthItem}
use Rattle.gtd_hours_dated.specs.declared.more.MonthItem.TheVariants as item
use Rattle.gtd_hours_days.specs.declared.easter_range.EasterRange.{EasterRange}
use Rattle.gtd_hours_days.specs.declared.listed.EasterDays.{EasterDays}
use Rattle.gtd_hours_days.specs.declared.listed.EasterDays.TheVariants as easter
use Rattle.gtd_hours_days.specs.declared.listed.Listed.{Listed}
use Rattle.gtd_hours_days.specs.declared.listed.Listed.TheVariants as listed_days
use Rattle.gtd_hours_days.specs.declared.offset.Offset.{Offset}
use Rattle.gtd_hours_days.specs.declared.yearly_day.YearlyDay.{YearlyDay}
use Rattle.gtd_hours_days.specs.declared.yearly_day.YearlyDay.TheVariants as yearly
use Rattle.gtd_hours_holiday_rules.specs.Rules.{before_holiday}
use Rattle.gtd_hours_writing.specs.Joining.{listed}

-- ` +1 day`, ` -2 days`; nothing for no days
abbrev pub days_text : Offset → List ℕ
days_text offset = offset_text (is_negative offset.days) (unsigned_abs offset.days)

abbrev pub easter_day_text : Offset → List ℕ
easter_day_text offset = codes "easter" ++ days_text offset

-- an end of a range with Easter: `Oct 31`, `Mar Su[-1]`, `easter -47 days`
abbrev pub yearly_text : YearlyDay → List ℕ
yearly_text (yearly.Calendar end) = end_text end
yearly_text (yearly.Easter offset) = easter_day_text offset

abbrev pub easter_range_text : EasterRange → List ℕ
easter_range_text range = (yearly_text range.first ++ codes "-") ++ yearly_text range.last

abbrev pub easter_text : EasterDays → List ℕ
easter_text (easter.Day offset) = easter_day_text offset
easter_text (easter.Range range) = easter_range_text range

abbrev pub holiday_text : Listed → List ℕ
holiday_text (listed_days.Public offset) = codes "PH" ++ days_text offset
holiday_text listed_days.School = codes "SH"
holiday_text (listed_days.Easter days) = easter_text days

-- A list with these days of Easter behind it.
abbrev pub with_easter : List ℕ → List EasterDays → List ℕ
with_easter text [] = text
with_easter text (x ∷ xs) = with_easter (listed text (easter_text x)) xs

-- A list with these selectors of plain hours behind it.
abbrev pub with_selectors : List ℕ → List Selector → List ℕ
with_selectors text xs = listed text (kind_text false xs)

-- A list with these month days behind it, in this order: those of a rule's own text, its ranges that move, and its days of
-- Easter.
abbrev pub with_month_days : List ℕ → List MonthItem → List Selector → List Selector → List EasterDays → List ℕ
with_month_days text [] own dates easter = with_easter (with_selectors (with_selectors text own) dates) easter
with_month_days text (item.Own ∷ items) own dates easter =
    with_month_days (with_selectors text (take 1 own)) items (drop 1 own) dates easter
with_month_days text (item.Moving ∷ items) own dates easter =
    with_month_days (with_selectors text (take 1 dates)) items own (drop 1 dates) easter
with_month_days text (item.Easter ∷ items) own dates easter =
    with_month_days (with_easter text (take 1 easter)) items own dates (drop 1 easter)

-- A list with these holidays behind it.
abbrev pub with_holidays : List ℕ → List Listed → List ℕ
with_holidays text [] = text
with_holidays text (x ∷ xs) = with_holidays (listed text (holiday_text x)) xs

-- A list with these weekdays and holidays behind it, in this order: each holiday behind the weekdays that stand before it, and
-- the weekdays behind the last one.
abbrev pub with_days : List ℕ → List Bool → List Selector → List Listed → List ℕ
with_days text order weekdays [] = with_selectors text weekdays
with_days text order weekdays (x ∷ xs) =
    with_days (listed (with_selectors text (take (before_holiday order) weekdays)) (holiday_text x))
    (drop 1 (drop (before_holiday order) order)) (drop (before_holiday order) weekdays) xs
