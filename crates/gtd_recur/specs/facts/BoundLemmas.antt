-- How much work there can be at most.
use Rattle.std.proofs.Common.{◌≡◌, ℕ, ◌+◌, ◌/◌, ◌≤◌, length, arith, ℤ, pos, ◌+ℤ◌, ◌-ℤ◌, ◌≤ℤ◌, ◌<ℤ◌}
use Rattle.gtd_core.specs.Limits.{most_horizon_days}
use Rattle.gtd_calendar.specs.facts.Signed.{signed_arith}
use Rattle.gtd_core.specs.declared.domain.Basic.{Basic}
use Rattle.gtd_core.specs.declared.duration.DurationParts.{DurationParts}
use Rattle.gtd_core.specs.declared.horizon.Horizon.{Horizon}
use Rattle.gtd_core.specs.Ranges.{lookback_of, IsDuration, bound_of}
use Rattle.gtd_core.specs.Parts.{start_parts, duration_parts}
use Rattle.gtd_core.specs.Whole.{from_day, to_day}
use Rattle.gtd_recur.specs.Work.{window, window_begin, whole_work, work_of}
use Rattle.gtd_recur.specs.facts.StartsLemmas.{length-between, length-starts, window_begin-is}

lookback-le : (p : DurationParts) → IsDuration p → lookback_of p ≤ 36600
lookback-le p h = few (bound_of p) h.1
  where
    few : (n : ℕ) → n ≤ 3162240000 → (n + 86399) / 86400 ≤ 36600
    few n le = omega arith

pub work_of-le : (d : Basic) (h : Horizon) → work_of d h ≤ 20000000000
unfolding whole_work
work_of-le d h =
    let back = lookback-le (duration_parts d.duration) d.duration.bounded in
    let begins = window_begin-is d h in
    let order = low (window_begin d h) (from_day h) (to_day h) (lookback_of (duration_parts d.duration)) begins h.not_empty in
    let long = length-between (window_begin d h) (to_day h) order in
    let days = few (window_begin d h) (from_day h) (to_day h) (lookback_of (duration_parts d.duration))
    (length (window d h)) begins back long h.not_long in
    let starts = length-starts (start_parts d.start) (window d h) in
    omega (arith, days, starts)
  where
    low : (a b c : ℤ) (k : ℕ) → a ≡ b -ℤ pos k → b <ℤ c → a ≤ℤ c
    low a b c k e lt = omega (arith, signed_arith)

    few : (a b c : ℤ) (k long : ℕ) → a ≡ b -ℤ pos k → k ≤ 36600 → a +ℤ pos long ≡ c → (c -ℤ b) ≤ℤ pos most_horizon_days
        → long ≤ 182698
    few a b c k long e le f most = omega (arith, signed_arith)
