-- Which two days make a horizon, and the first fault of those that do not.
use Rattle.std.specs.Prelude.{ℤ, pos, ◌-ℤ◌, ◌≤ℤ◌, ◌<ℤ◌}
use Rattle.gtd_core.specs.Limits.{first_horizon_day, horizons_end, most_horizon_days}
use Rattle.gtd_core.specs.declared.horizon.HorizonFault.{HorizonFault}
use Rattle.gtd_core.specs.declared.horizon.HorizonFault.TheVariants.{Empty, TooEarly, TooLate, TooLong}

-- At least one day and at most 146,098, one more than 400 years have; none before 1901-01-01 (day -25,202), and none
-- from 2700-01-01 (day 266,627) on.
abbrev pub IsHorizon : ℤ → ℤ → Type 0
IsHorizon from_day to_day =
    (from_day <ℤ to_day) × (first_horizon_day ≤ℤ from_day) × (to_day ≤ℤ horizons_end)
    × ((to_day -ℤ from_day) ≤ℤ pos most_horizon_days)

-- the first fault of two days: each applies only if those before it do not
abbrev pub IsHorizonFault : HorizonFault → ℤ → ℤ → Type 0
IsHorizonFault Empty from_day to_day = to_day ≤ℤ from_day
IsHorizonFault TooEarly from_day to_day = (from_day <ℤ to_day) × (from_day <ℤ first_horizon_day)
IsHorizonFault TooLate from_day to_day = (from_day <ℤ to_day) × (first_horizon_day ≤ℤ from_day) × (horizons_end <ℤ to_day)
IsHorizonFault TooLong from_day to_day =
    (from_day <ℤ to_day) × (first_horizon_day ≤ℤ from_day) × (to_day ≤ℤ horizons_end)
    × (pos most_horizon_days <ℤ (to_day -ℤ from_day))
