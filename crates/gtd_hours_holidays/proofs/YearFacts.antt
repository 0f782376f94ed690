-- The first and the last day of years.
use Rattle.std.proofs.Common.{◌≡◌, ◌∙◌, arith, ◌+◌, ◌-◌, ℕ, ℤ, pos, ◌+ℤ◌}
use Rattle.gtd_calendar.specs.facts.Signed.{signed_arith}
use Rattle.gtd_calendar.specs.Calendar.{day_number, days_of_months, first_day, year_length}
use Rattle.gtd_calendar.specs.facts.DateLemmas.{days_of_months-next, days_of_months-year}
use Rattle.gtd_calendar.specs.facts.YearDays.{month_begins, next_year, year_begins}

pub year_starts : (y : ℕ) → day_number (pos y) 1 1 ≡ first_day (pos y)
year_starts y = month_begins (pos y) 1 ∙ year_begins (pos y)

pub year_ends : (y : ℕ) → day_number (pos y) 12 31 +ℤ pos 1 ≡ first_day (pos (y + 1))
unfolding day_number
year_ends y =
    chain (first_day (pos y)) (first_day (pos (y + 1))) (days_of_months (pos y) 11) (days_of_months (pos y) 12)
    (year_length (pos y)) (next_year y) (days_of_months-year (pos y)) (days_of_months-next (pos y) 11)
  where
    chain : (a b : ℤ) (k m n : ℕ) → b ≡ a +ℤ pos n → m ≡ n → m ≡ k + 31 → (a +ℤ pos (k + (31 - 1))) +ℤ pos 1 ≡ b
    chain a b k m n e f g = omega (arith, signed_arith, e, f, g)
