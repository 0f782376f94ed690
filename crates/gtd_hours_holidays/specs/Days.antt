-- Sets of days of the years 1800 to 2799. Days are numbered from 1970-01-01.
use Rattle.std.specs.Prelude.{◌≡◌, ℕ, true, false, get_or, ℤ, pos, ◌+ℤ◌, ◌≤ℤ◌, ◌<ℤ◌}
use Rattle.gtd_calendar.specs.Calendar.{IsCalendarDay}
use Rattle.gtd_hours_holidays.specs.declared.days.Days.{Days}

-- the day, one of these years, is in the set: its mark, counted from the set's first day, says so
abbrev pub IsIn : Days → ℤ → Type 0
IsIn days n = IsCalendarDay n × (k : ℕ) × (n ≡ days.first +ℤ pos k) × (get_or days.marks.items k false ≡ true)

-- it holds on each day from one to another, both included; or on none
abbrev pub AreAll : (ℤ → Type 0) → ℤ → ℤ → Type 0
AreAll Holds from to = (n : ℤ) → from ≤ℤ n → n ≤ℤ to → Holds n

abbrev pub AreNone : (ℤ → Type 0) → ℤ → ℤ → Type 0
AreNone Holds from to = (n : ℤ) → from ≤ℤ n → n ≤ℤ to → Holds n → ⊥

-- the first of these days on which it holds
pub record IsFirst (Holds : ℤ → Type 0) (from to day : ℤ) : Type 0 where
  pub after : from ≤ℤ day
  pub before : day ≤ℤ to
  pub holds : Holds day
  pub earlier : (n : ℤ) → from ≤ℤ n → n <ℤ day → Holds n → ⊥

-- the first of these days on which it does not
pub record IsFirstWithout (Holds : ℤ → Type 0) (from to day : ℤ) : Type 0 where
  pub after : from ≤ℤ day
  pub before : day ≤ℤ to
  pub fails : Holds day → ⊥
  pub earlier : (n : ℤ) → from ≤ℤ n → n <ℤ day → Holds n
