-- What the holidays, the days of Easter and the years without a last one of a text need and is not given: a table, and years.
use Rattle.std.specs.Prelude.{◌≡◌, ℕ, ◌&&◌, ◌||◌, Bool, true, false, if◌then◌else◌, List, [], ◌∷◌, drop}
use Rattle.std.specs.Prelude.{IsTrue, Option, Some, None}
use Rattle.gtd_hours_days.specs.Listed.{kind_of}
use Rattle.gtd_hours_days.specs.declared.listed.EasterDays.{EasterDays}
use Rattle.gtd_hours_days.specs.declared.listed.Listed.{Listed}
use Rattle.gtd_hours_days.specs.declared.listed.Listed.TheVariants.{Public, School, Easter}
use Rattle.gtd_hours_holidays.specs.declared.holidays.Holidays.{Holidays}
use Rattle.gtd_hours_holidays.specs.declared.known_years.KnownYears.{KnownYears}
use Rattle.gtd_hours_holidays.specs.declared.row.HolidayKind.{HolidayKind}
use Rattle.gtd_hours_holidays.specs.declared.row.HolidayKind.TheVariants as kind
use Rattle.gtd_hours_holidays.specs.declared.row.HolidayRow.{HolidayRow}
use Rattle.gtd_hours_holiday_rules.specs.declared.rules.HolidayRule.{HolidayRule}
use Rattle.gtd_hours_known.specs.Rules.{first_place}
use Rattle.gtd_hours_known.specs.declared.fault.KnownFault.{KnownFault}
use Rattle.gtd_hours_known.specs.declared.fault.KnownFault.TheVariants as fault
use Rattle.gtd_hours_known.specs.declared.given.Seen.{Seen}
use Rattle.gtd_hours_known.specs.declared.known.Known.{Known}

-- the two kinds are the same
abbrev pub is_kind : HolidayKind → HolidayKind → Bool
is_kind kind.Public kind.Public = true
is_kind kind.School kind.School = true
is_kind a b = false

-- some row says that all holidays of the kind on its days are in the table
abbrev pub covers : List HolidayRow → HolidayKind → Bool
covers [] kind = false
covers (row ∷ rows) kind = (row.covers && is_kind row.kind kind) || covers rows kind

-- and so for the kind of a holiday, if it has one
abbrev pub covers_some : List HolidayRow → Option HolidayKind → Bool
covers_some rows None = true
covers_some rows (Some kind) = covers rows kind

-- there is a table, and it is one of such holidays
abbrev pub has_table : Option Holidays → Listed → Bool
has_table None h = false
has_table (Some table) h = covers_some table.rows.items (kind_of h)

-- no years are given
abbrev pub no_years : Option KnownYears → ℕ → Option KnownFault
no_years None place = Some (fault.Years place)
no_years (Some years) place = None

-- what is not given for a holiday that stands at a place
abbrev pub not_given : Known → Listed → ℕ → Option KnownFault
not_given known h place =
    if has_table known.holidays h then no_years known.years place else Some (fault.Holidays place)

abbrev pub or_later : Option KnownFault → Option KnownFault → Option KnownFault
or_later None later = later
or_later (Some bad) later = Some bad

-- for the first of some holidays at these places for which something is not
abbrev pub none_given : Known → List Listed → List ℕ → Option KnownFault
none_given known [] places = None
none_given known (h ∷ holidays) places =
    or_later (not_given known h (first_place places)) (none_given known holidays (drop 1 places))

-- no years are given for the first of some days of Easter at these places
abbrev pub no_easter_years : Option KnownYears → List EasterDays → List ℕ → Option KnownFault
no_easter_years years [] places = None
no_easter_years years (h ∷ easter) places = no_years years (first_place places)

-- no years are given with which years without a last one, whose slash stands here, end
abbrev pub no_last_year : Option KnownYears → Option ℕ → Option KnownFault
no_last_year years None = None
no_last_year years (Some place) = no_years years place

-- What is not given for a rule: the years of its first years without a last one, of its first Easter, or what its holidays need.
abbrev pub rule_lacks : Known → HolidayRule → Option KnownFault
rule_lacks known rule =
    or_later (no_last_year known.years rule.every_place)
    (or_later (no_easter_years known.years rule.easter.items rule.easter_places.items)
    (none_given known rule.holidays.items rule.places.items))

-- Nothing is missing for each of some rules.
abbrev pub AreAllGiven : Known → List HolidayRule → Type 0
AreAllGiven known [] = Unit {0}
AreAllGiven known (rule ∷ rules) = (rule_lacks known rule ≡ None) × AreAllGiven known rules

-- ---- as the code goes

-- it is seen that all is given for holidays of this kind
abbrev pub is_seen : Seen → Listed → Bool
is_seen seen (Public offset) = seen.public
is_seen seen School = seen.school
is_seen seen (Easter days) = false

-- and so it is
abbrev pub AreSeen : Known → Seen → Type 0
AreSeen known seen = (h : Listed) (place : ℕ) → IsTrue (is_seen seen h) → not_given known h place ≡ None
