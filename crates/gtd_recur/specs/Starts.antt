-- The starts of a window of days, which are taken one by one from its beginning.
use Rattle.std.specs.Prelude.{◌≡◌, ◌⊎◌, true, false, ℕ, ◌+◌, ◌-◌, ◌++◌, List, [], ◌∷◌, map, filter, count_by, length}
use Rattle.std.specs.Prelude.{drop, Option, Some, None, ℤ}
use Rattle.std.specs.Prelude.{pos, ◌+ℤ◌, ◌*ℤ◌, ◌≤ℤ◌, ◌<ℤ◌, IsTrue}
use Rattle.gtd_core.specs.Limits.{day_seconds, horizons_end, first_window_day}
use Rattle.gtd_core.specs.declared.start.StartParts.{StartParts}
use Rattle.gtd_core.specs.declared.second.Sec.{Sec}
use Rattle.gtd_calendar.specs.ComputedFields.{day_fields}
use Rattle.gtd_recur.specs.Begins.{begins_at, begins_on, month_and_year_fit}
use Rattle.gtd_recur.specs.Work.{days_between, numbers_from, starts_of}

-- the seconds of day n, from one of them on, at which the clock of a start fits
unfoldable pub clock_starts : StartParts → ℤ → ℕ → List ℤ
clock_starts p n from = map (λ k. pos day_seconds *ℤ n +ℤ pos k) (filter (begins_at p) (numbers_from from (day_seconds - from)))

-- the starts that are left of an open day, and those of the days from `next` up to `end`
unfoldable pub starts_left : StartParts → ℤ → ℕ → ℤ → ℤ → List ℤ
starts_left p day clock next end = clock_starts p day clock ++ starts_of p (days_between next end)

-- an open day's starts are left from its first second on if the start begins on it, and otherwise none are
abbrev pub IsOpened : StartParts → ℤ → ℕ → Type 0
IsOpened p n clock = ((begins_on p (day_fields n) ≡ true) × (clock ≡ 0))
    ⊎ ((begins_on p (day_fields n) ≡ false) × (clock ≡ day_seconds))

-- the first second of a list is taken off, if there is one
abbrev pub TakesSecond : List ℤ → Option Sec → List ℤ → Type 0
TakesSecond before None after = (before ≡ []) × (after ≡ [])
TakesSecond before (Some b) after = before ≡ b.0 ∷ after

-- all except so many of a list are left
pub record AreLeft (handed : ℕ) (all left : List ℤ) : Type 0 where
  pub count : handed + length left ≡ length all
  pub rest : left ≡ drop handed all

-- a window of days of the calendar, the day that is open in it, and the next to look at
pub record IsInWindow (first day next end : ℤ) : Type 0 where
  pub first_in : first_window_day ≤ℤ first
  pub day_in : first ≤ℤ (day +ℤ pos 1)
  pub next_in : day <ℤ next
  pub end_in : next ≤ℤ end
  pub last_in : end ≤ℤ horizons_end

-- Of the days before the next one, exactly those that no given month or year excludes were looked at. Those before the
-- day `seen` were looked at first. No day is left out between the next one and the open day, or `seen` if that is
-- later.
pub record IsLookedCount (p : StartParts) (first seen day next : ℤ) (looked : ℕ) : Type 0 where
  pub low : first ≤ℤ seen
  pub high : seen ≤ℤ next
  pub all : count_by (month_and_year_fit p) (days_between first next) ≡ looked
  pub jumped : seen ≤ℤ (day +ℤ pos 1) → count_by (month_and_year_fit p) (days_between (day +ℤ pos 1) next) ≡ 0
  pub unopened : (day +ℤ pos 1) ≤ℤ seen → count_by (month_and_year_fit p) (days_between seen next) ≡ 0

-- the days from the next up to some day, which is the last of all only at the end, are not excluded
pub record AreFitting (p : StartParts) (next until end : ℤ) : Type 0 where
  pub within : until ≤ℤ end
  pub some : next <ℤ end → next <ℤ until
  pub fit : (n : ℤ) → next ≤ℤ n → n <ℤ until → IsTrue (month_and_year_fit p n)
