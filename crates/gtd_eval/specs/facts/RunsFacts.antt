-- Facts of the runs of a basic domain as a leaf of a tree.
use Rattle.std.proofs.Common.{◌+◌, ◌*◌, ◌≤◌, arith}
use Rattle.gtd_recur.specs.RunsToCome.{runs_basic, runs_horizon}
use Rattle.gtd_recur.specs.declared.runs.Runs.{Runs}
use Rattle.gtd_recur.specs.facts.BoundLemmas.{work_of-le}
use Rattle.gtd_eval.specs.Leaves.{runs_size}

-- they have at most the days of a horizon and the longest lookback, and 86,400 starts on each
pub runs-small : (runs : Runs) → (runs_size runs).work ≤ 20000000000 * (runs_size runs).nodes
runs-small runs = omega (arith, work_of-le (runs_basic runs) (runs_horizon runs))

pub runs-keep-none : (runs : Runs) → 0 ≤ 4096 * (runs_size runs).periods
runs-keep-none runs = omega arith

pub runs-keep-no-more : (runs : Runs) → 0 ≤ 16 * ((runs_size runs).nodes + 1)
runs-keep-no-more runs = omega arith

pub runs-tell-none : (runs : Runs) → 0 ≤ 16 * ((runs_size runs).nodes + 1) + 2 * (runs_size runs).periods
runs-tell-none runs = omega arith

pub runs-have-none : (runs : Runs) → (runs_size runs).periods ≤ (runs_size runs).nodes
runs-have-none runs = omega arith
