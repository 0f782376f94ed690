-- The days in which a change is looked for.
use Rattle.std.proofs.Common.{◌≡◌, ◌<◌, arith, inl, inr, ℕ}
use Rattle.std.specs.Prelude.{ℤ, pos, ◌+ℤ◌, ◌*ℤ◌, ◌≤ℤ◌, ◌<ℤ◌}
use Rattle.std.proofs.lemmas.Int.{ints}
use Rattle.gtd_calendar.specs.facts.ClockLemmas.{second-parts}
use Rattle.gtd_calendar.specs.Calendar.{IsCalendarDay}
use Rattle.gtd_calendar.specs.Clock.{second_of_day}
use Rattle.gtd_core.specs.Seconds.{day_of_second, IsHorizonSecond}
use Rattle.gtd_states.specs.States.{IsLookEnd}

within : (t n first last : ℤ) (k : ℕ) → IsHorizonSecond t → t ≡ pos 86400 *ℤ n +ℤ pos k → k < 86400 → first ≡ n → IsLookEnd n last
    → ((first *ℤ pos 86400) ≤ℤ t) × (t <ℤ (last *ℤ pos 86400))
within t n first last k range is clock from (inl e) = (omega (arith, ints, is, from), omega (arith, ints, is, clock, e.0))
within t n first last k range is clock from (inr e) = (omega (arith, ints, is, from), omega (arith, ints, range.1, e.0))

-- the second is in them
pub looks_at : (t first last : ℤ) → IsHorizonSecond t → first ≡ day_of_second t → IsLookEnd (day_of_second t) last
    → ((first *ℤ pos 86400) ≤ℤ t) × (t <ℤ (last *ℤ pos 86400))
looks_at t first last range from end =
    let parts = second-parts t in within t (day_of_second t) first last (second_of_day t) range parts.0 parts.1 from end

day_in : (t s n day last : ℤ) (k : ℕ) → IsHorizonSecond s → IsLookEnd day last → s <ℤ t → t <ℤ (last *ℤ pos 86400) → t ≡ pos 86400
    *ℤ n +ℤ pos k → k < 86400 → IsCalendarDay n
day_in t s n day last k range (inl e) later early is clock =
    (omega (arith, ints, range.0, later, is, clock), omega (arith, ints, early, e.1, is))
day_in t s n day last k range (inr e) later early is clock =
    (omega (arith, ints, range.0, later, is, clock), omega (arith, ints, early, e.0, is))

-- a change has a text
pub change_shown : (t s last : ℤ) → IsHorizonSecond s → IsLookEnd (day_of_second s) last → s <ℤ t → t <ℤ (last *ℤ pos 86400)
    → IsCalendarDay (day_of_second t)
change_shown t s last range end later early =
    let parts = second-parts t in day_in t s (day_of_second t) (day_of_second s) last
    (second_of_day t) range end later early parts.0 parts.1
