-- Horizons of the same days are the same.
use mathlib.Core.HLevel.{is_prop→PathP}
use Rattle.std.proofs.Common.{◌≡◌}
use Rattle.std.proofs.Props.{props}
use Rattle.std.specs.Prelude.{pos, ◌<ℤ◌, ◌≤ℤ◌, ◌-ℤ◌}
use Rattle.gtd_core.specs.Limits.{first_horizon_day, horizons_end, most_horizon_days}
use Rattle.gtd_core.specs.Whole.{from_day, to_day}
use Rattle.gtd_core.specs.declared.horizon.Horizon.{Horizon}

pub same_horizon : (h k : Horizon) → from_day h ≡ from_day k → to_day h ≡ to_day k → h ≡ k
same_horizon h k from to = λ i. record {
  from_day = from i;
  to_day = to i;
  not_empty = is_prop→PathP (λ j. from j <ℤ to j) (λ j. hlevel props) h.not_empty k.not_empty i;
  not_early = is_prop→PathP (λ j. first_horizon_day ≤ℤ from j) (λ j. hlevel props) h.not_early k.not_early i;
  not_late = is_prop→PathP (λ j. to j ≤ℤ horizons_end) (λ j. hlevel props) h.not_late k.not_late i;
  not_long = is_prop→PathP (λ j. (to j -ℤ from j) ≤ℤ pos most_horizon_days) (λ j. hlevel props) h.not_long k.not_long i;
}
