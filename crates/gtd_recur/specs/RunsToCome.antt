-- What is seen of the runs of a basic domain: the domain, the horizon, the runs still to come, and the ticks.
use Rattle.std.specs.Prelude.{ℕ, List}
use Rattle.gtd_core.specs.Seconds.{Interval}
use Rattle.gtd_core.specs.declared.domain.Basic.{Basic}
use Rattle.gtd_core.specs.declared.horizon.Horizon.{Horizon}
use Rattle.gtd_core.specs.Parts.{duration_parts}
use Rattle.gtd_core.specs.Whole.{whole}
use Rattle.gtd_recur.specs.declared.runs.Runs.{Runs}
use Rattle.gtd_recur.specs.Stretches.{runs_between, starts_ahead}
use Rattle.gtd_recur.specs.Walking.{walk_to_come, walk_ticks}

abbrev pub runs_basic : Runs → Basic
runs_basic r = r.walk.basic

abbrev pub runs_horizon : Runs → Horizon
runs_horizon r = r.walk.horizon

-- the spans that are still to be handed out, as a normal list
abbrev pub runs_to_come : Runs → List Interval
runs_to_come r =
    runs_between (duration_parts r.walk.basic.duration) (starts_ahead r.ahead (walk_to_come r.walk))
    (whole r.walk.horizon).from (whole r.walk.horizon).until

-- the days that were looked at, and the starts that were taken
abbrev pub runs_ticks : Runs → ℕ
runs_ticks r = walk_ticks r.walk

-- all spans that were to be handed out before the first was, as a normal list
abbrev pub runs_whole : Runs → List Interval
runs_whole r =
    runs_between (duration_parts r.begun.basic.duration) (starts_ahead r.first (walk_to_come r.begun))
    (whole r.begun.horizon).from (whole r.begun.horizon).until
