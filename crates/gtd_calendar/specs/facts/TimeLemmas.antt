-- Each second is at one hour, minute and second of one day.
use Rattle.std.proofs.Common.{◌≡◌, ℕ, ◌+◌, ◌*◌, ◌/◌, ◌%◌, ◌<◌, sym, arith, ℤ, pos, ◌+ℤ◌, ◌*ℤ◌}
use Rattle.gtd_core.specs.Seconds.{day_of_second}
use Rattle.gtd_calendar.specs.Clock.{second_of_day, IsTimeOf}
use Rattle.gtd_calendar.specs.facts.ClockLemmas.{second-parts, second-only}

-- the day of a second and its place in the day, parted by hours and minutes, are its time
pub time_of-is : (s : ℤ)
    → IsTimeOf s (day_of_second s) (second_of_day s / 3600) (second_of_day s / 60 % 60) (second_of_day s % 60)
time_of-is s =
    let parts = second-parts s in
    parted s (day_of_second s) (second_of_day s) parts.0 parts.1
  where
    parted : (s n : ℤ) (k : ℕ) → s ≡ pos 86400 *ℤ n +ℤ pos k → k < 86400
        → IsTimeOf s n (k / 3600) (k / 60 % 60) (k % 60)
    parted s n k e low =
        let whole : 3600 * (k / 3600) + 60 * (k / 60 % 60) + k % 60 ≡ k = omega arith in
        record { clock = (omega arith, omega arith, omega arith); is = rw whole e }

-- and there is no other
pub time_of-only : (s n : ℤ) (hour minute second : ℕ) → IsTimeOf s n hour minute second → (n ≡ day_of_second s)
    × (hour ≡ second_of_day s / 3600) × (minute ≡ second_of_day s / 60 % 60) × (second ≡ second_of_day s % 60)
time_of-only s n hour minute second h =
    let low : 3600 * hour + 60 * minute + second < 86400 = omega (arith, h.clock.0, h.clock.1, h.clock.2) in
    let only = second-only s n (3600 * hour + 60 * minute + second) low h.is in
    let at = parted (second_of_day s) hour minute second h.clock.1 h.clock.2 only.1 in
    (sym only.0, at.0, at.1, at.2)
  where
    parted : (k hour minute second : ℕ) → minute < 60 → second < 60 → k ≡ 3600 * hour + 60 * minute + second
        → (hour ≡ k / 3600) × (minute ≡ k / 60 % 60) × (second ≡ k % 60)
    parted k hour minute second few less is = (omega arith, omega arith, omega arith)
