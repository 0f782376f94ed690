use Rattle.std.specs.Prelude.{◌≤ℤ◌, length}
use Rattle.gtd_recur.specs.RunsToCome.{runs_to_come}
use Rattle.gtd_eval.specs.Basics.{ahead_list}
use Rattle.gtd_eval.specs.Onward.{IsSameBasic}
use Rattle.gtd_eval.proofs.basic_stays.BasicStays.pass_all.Given as goal

abbrev pub invariant-loop-span : goal.invariant-loop-span
invariant-loop-span l = record {
  same : IsSameBasic l.initial.self l.self;
  at : l.self.at.0 ≤ℤ l.fn.at.0;
}

-- what is still to come
abbrev pub decreases-loop-span : goal.decreases-loop-span
decreases-loop-span l = length (ahead_list l.self.ahead (runs_to_come l.self.runs))
