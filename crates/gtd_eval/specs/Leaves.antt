-- How large the runs of a basic domain are as a leaf of a tree.
use Rattle.gtd_recur.specs.RunsToCome.{runs_basic, runs_horizon}
use Rattle.gtd_recur.specs.Work.{work_of}
use Rattle.gtd_recur.specs.declared.runs.Runs.{Runs}
use Rattle.gtd_eval.specs.Shape.{Size}

-- they are one node, and keep no spans
abbrev pub runs_size : Runs → Size
runs_size runs = record { nodes = 1; height = 1; work = work_of (runs_basic runs) (runs_horizon runs); periods = 0 }
