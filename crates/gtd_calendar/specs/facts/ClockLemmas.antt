-- Days and seconds, and how long a stretch can be.
use Rattle.std.proofs.Common.{◌≡◌, ℕ, ◌+◌, ◌*◌, ◌<◌, arith, ℤ, pos, ◌+ℤ◌, ◌*ℤ◌, ◌≤ℤ◌, ◌≤◌}
use Rattle.std.specs.Int.{int_rem_euclid}
use Rattle.jiff_core.proofs.SignedLemmas.{signed_arith, one_part}
use Rattle.gtd_core.specs.declared.duration.DurationParts.{DurationParts}
use Rattle.gtd_core.specs.Ranges.{bound_of, clock_seconds}
use Rattle.gtd_core.specs.Seconds.{day_of_second}
use Rattle.gtd_calendar.specs.facts.MonthLemmas.{months_later-order, months_later-bound, months_later-none}
use Rattle.gtd_calendar.specs.Clock.{second_of_day}
use Rattle.gtd_calendar.specs.ComputedEnds.{months_later, stop}

-- a second is its day and its place in the day
pub second-parts : (s : ℤ) → (s ≡ pos 86400 *ℤ day_of_second s +ℤ pos (second_of_day s)) × (second_of_day s < 86400)
unfolding day_of_second second_of_day
second-parts s =
    let part = one_part (int_rem_euclid s (pos 86400)) in
    (omega (arith, signed_arith), omega (arith, signed_arith))

-- and only those
pub second-only : (s n : ℤ) (k : ℕ) → k < 86400 → s ≡ pos 86400 *ℤ n +ℤ pos k → (day_of_second s ≡ n)
    × (second_of_day s ≡ k)
second-only s n k low e =
    let parts = second-parts s in
    only s n (day_of_second s) k (second_of_day s) low e parts.0 parts.1
  where
    only : (s n m : ℤ) (k l : ℕ) → k < 86400 → s ≡ pos 86400 *ℤ n +ℤ pos k → s ≡ pos 86400 *ℤ m +ℤ pos l → l < 86400
        → (m ≡ n) × (l ≡ k)
    only s n m k l low e f high = (omega (arith, signed_arith), omega (arith, signed_arith))

-- a stretch ends at or after its first second, and is never longer than its bound
pub stop-bound : (p : DurationParts) (b : ℤ) → (b ≤ℤ stop p b) × (stop p b ≤ℤ (b +ℤ pos (bound_of p)))
unfolding stop
stop-bound p b =
    let parts = second-parts b in
    let moved = months_later-bound (day_of_second b) p.years p.months in
    ends b (day_of_second b) (months_later (day_of_second b) (12 * p.years + p.months)) (second_of_day b)
    (366 * p.years + 31 * p.months) (7 * p.weeks + p.days) (clock_seconds p) (bound_of p) parts.0 moved.0 moved.1
    (omega arith)
  where
    ends : (b n m : ℤ) (second reach days clock bound : ℕ) → b ≡ pos 86400 *ℤ n +ℤ pos second → n ≤ℤ m
        → m ≤ℤ (n +ℤ pos reach) → bound ≡ 86400 * (reach + days) + clock
        → (b ≤ℤ (pos 86400 *ℤ (m +ℤ pos days) +ℤ pos (second + clock)))
        × ((pos 86400 *ℤ (m +ℤ pos days) +ℤ pos (second + clock)) ≤ℤ (b +ℤ pos bound))
    ends b n m second reach days clock bound e low high is = (omega (arith, signed_arith), omega (arith, signed_arith))

-- without years and months a stretch ends a fixed number of seconds after its first second
pub stop-without_months : (p : DurationParts) (b : ℤ) → 12 * p.years + p.months ≡ 0
    → stop p b ≡ b +ℤ pos (86400 * (7 * p.weeks + p.days) + clock_seconds p)
unfolding stop
stop-without_months p b none =
    let parts = second-parts b in
    rw (none, months_later-none (day_of_second b))
    (moved b (day_of_second b) (second_of_day b) (7 * p.weeks + p.days) (clock_seconds p) parts.0)
  where
    moved : (b n : ℤ) (second days clock : ℕ) → b ≡ pos 86400 *ℤ n +ℤ pos second
        → pos 86400 *ℤ (n +ℤ pos days) +ℤ pos (second + clock) ≡ b +ℤ pos (86400 * days + clock)
    moved b n second days clock e = omega (arith, signed_arith)

-- stretches that begin on one day end in the same order and at the same distance
pub stop-same_day : (p : DurationParts) (b c : ℤ) → day_of_second b ≡ day_of_second c
    → stop p b +ℤ pos (second_of_day c) ≡ stop p c +ℤ pos (second_of_day b)
unfolding stop
stop-same_day p b c same =
    rw same (moved (pos 86400 *ℤ (months_later (day_of_second c) (12 * p.years + p.months)
    +ℤ pos (7 * p.weeks + p.days))) (second_of_day b) (second_of_day c) (clock_seconds p))
  where
    moved : (a : ℤ) (k l clock : ℕ) → (a +ℤ pos (k + clock)) +ℤ pos l ≡ (a +ℤ pos (l + clock)) +ℤ pos k
    moved a k l clock = omega (arith, signed_arith)

-- a stretch that begins on a later day, no earlier on the clock, ends no earlier
pub stop-order : (p : DurationParts) (b c : ℤ) → day_of_second b ≤ℤ day_of_second c → second_of_day b ≤ second_of_day c → stop p b
    ≤ℤ stop p c
unfolding stop
stop-order p b c day clock =
    ends (months_later (day_of_second b) (12 * p.years + p.months)) (months_later (day_of_second c) (12 * p.years + p.months))
    (7 * p.weeks + p.days) (second_of_day b) (second_of_day c) (clock_seconds p)
    (months_later-order (day_of_second b) (day_of_second c) (12 * p.years + p.months) day) clock
  where
    ends : (x y : ℤ) (d i j k : ℕ) → x ≤ℤ y → i ≤ j → (pos 86400 *ℤ (x +ℤ pos d) +ℤ pos (i + k))
        ≤ℤ (pos 86400 *ℤ (y +ℤ pos d) +ℤ pos (j + k))
    ends x y d i j k le low = omega (arith, signed_arith)
