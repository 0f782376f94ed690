-- The days and the seconds of a horizon.
use Rattle.std.specs.Prelude.{ℤ}
use Rattle.gtd_core.specs.declared.horizon.Horizon.{Horizon}
pub use Rattle.gtd_core.specs.Seconds.{whole}

-- its first day
abbrev pub from_day : Horizon → ℤ
from_day horizon = horizon.from_day

-- the day after its last one
abbrev pub to_day : Horizon → ℤ
to_day horizon = horizon.to_day
