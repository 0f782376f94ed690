-- Weeks that go back.
use Rattle.std.proofs.Common.{◌≡◌, ◌↔◌, ◌⊎◌, inl, inr, arith, ℕ, ◌+◌, ◌-◌, ◌/◌, ◌%◌, ◌<◌, ◌≤◌}
use Rattle.std.proofs.Common.{ℤ}
use Rattle.gtd_calendar.specs.Calendar.{AreFieldsOf, year_length}
use Rattle.gtd_calendar.specs.declared.day.DayFields.{DayFields}
use Rattle.gtd_calendar.specs.facts.YearDays.{year_length-few}
use Rattle.gtd_hours.specs.Opening.{IsRound, IsStep}
use Rattle.gtd_hours.specs.Ranges.{IsWeeks}

-- ---- weeks

few_weeks : (k length w : ℕ) → length ≤ 366 → k < length → w ≡ k / 7 + 1 → (1 ≤ w) × (w ≤ 53)
few_weeks k length w few lt e = (omega (arith, few, lt, e), omega (arith, few, lt, e))

pub week-in : (n : ℤ) (f : DayFields) → AreFieldsOf n f → (1 ≤ f.week) × (f.week ≤ 53)
week-in n f are =
    few_weeks are.week.k (year_length f.week_year) f.week (year_length-few f.week_year) are.week.in_year are.week.number

each_one : (first k : ℕ) → (k - first) % 1 ≡ 0
each_one first k = omega arith

pub back-holds : (first last k : ℕ) → last < first → (1 ≤ k) × (k ≤ 53)
    → (IsStep first 53 1 k ⊎ IsStep 1 last 1 k) ↔ IsRound first last k
back-holds first last k lt range = (
  (λ h. elim h [ inl a ↦ inr (lt, inl a.0) | inr a ↦ inr (lt, inr a.1) ]),
  (λ h. elim h [
    | inl a ↦ absurd (never first last k lt a.0 a.1)
    | inr a ↦ elim (a.1) [
      | inl b ↦ inl (b, range.1, each_one first k)
      | inr b ↦ inr (range.0, b, each_one 1 k)
    ]
  ]),
)
  where
    never : (first last k : ℕ) → last < first → first ≤ k → k ≤ last → ⊥
    never first last k lt a b = omega (arith, lt, a, b)

-- ---- numbers

pub late_weeks : (first last w : ℕ) → last < first → first ≤ 53 → w ≡ first → IsWeeks w 53 1
late_weeks first last w lt few e = (omega (arith, lt, e), omega (arith, few, e), omega arith, omega arith, omega arith)

pub early_weeks : (first last w : ℕ) → last < first → first ≤ 53 → 1 ≤ last → w ≡ last → IsWeeks 1 w 1
early_weeks first last w lt few low e =
    (omega arith, omega (arith, low, e), omega (arith, lt, few, e), omega arith, omega arith)

pub are_back : (first last v w : ℕ) → v ≡ first → w ≡ last → IsWeeks v 53 1 → IsWeeks 1 w 1 → (first ≤ 53) × (1 ≤ last)
are_back first last v w e g late early = by_parts late.1 early.1
  where
    by_parts : v ≤ 53 → 1 ≤ w → (first ≤ 53) × (1 ≤ last)
    by_parts a b = (omega (arith, a, e), omega (arith, b, g))
