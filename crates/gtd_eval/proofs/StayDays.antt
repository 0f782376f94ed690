-- The days in which a change of a basic domain is looked for.
use Rattle.std.proofs.Common.{◌≡◌, arith, ◌⊎◌, inl, inr}
use Rattle.std.specs.Prelude.{ℤ, pos, ◌+ℤ◌, ◌-ℤ◌, ◌*ℤ◌, ◌≤ℤ◌, ◌<ℤ◌}
use Rattle.std.proofs.lemmas.Int.{ints}
use Rattle.gtd_core.specs.Horizons.{IsHorizonFault}
use Rattle.gtd_core.specs.Limits.{first_horizon_day, horizons_end, most_horizon_days}
use Rattle.gtd_core.specs.declared.horizon.HorizonFault.{HorizonFault}
use Rattle.gtd_core.specs.declared.horizon.HorizonFault.TheVariants.{Empty, TooEarly, TooLate, TooLong}
use Rattle.gtd_eval.specs.Ever.{week}

-- days within a horizon make one
pub no_fault : (f : HorizonFault) (from to day end : ℤ) → IsHorizonFault f day end → first_horizon_day ≤ℤ from → from ≤ℤ day
    → day <ℤ end → end ≤ℤ to → to ≤ℤ horizons_end → (to -ℤ from) ≤ℤ pos most_horizon_days → ⊥
no_fault Empty from to day end f a b c d e g = omega (arith, ints, f, c)
no_fault TooEarly from to day end f a b c d e g = omega (arith, ints, f.1, a, b)
no_fault TooLate from to day end f a b c d e g = omega (arith, ints, f.2, d, e)
no_fault TooLong from to day end f a b c d e g = omega (arith, ints, f.3, b, d, g)

-- they end with the horizon, or more than a week after the second
pub week_on : (W : Type 0) (s day end last to : ℤ) → (day *ℤ pos 86400) ≤ℤ s → s <ℤ ((day +ℤ pos 1) *ℤ pos 86400) → to ≡ end
    → ((end ≡ last) ⊎ ((end ≡ day +ℤ pos 8) × W))
    → ((to *ℤ pos 86400) ≡ (last *ℤ pos 86400)) ⊎ (((s +ℤ week) <ℤ (to *ℤ pos 86400)) × W)
week_on W s day end last to low high is (inl e) = inl (omega (arith, ints, is, e))
week_on W s day end last to low high is (inr e) = inr (omega (arith, ints, high, is, e.0), e.1)
