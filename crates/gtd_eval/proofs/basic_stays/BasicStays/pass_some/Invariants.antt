-- The basic domain and its end stay the same, and what was passed over ends by the second that is asked for.
use Rattle.std.specs.Prelude.{◌≤ℤ◌}
use Rattle.gtd_eval.specs.Onward.{IsSameBasic}
use Rattle.gtd_eval.proofs.basic_stays.BasicStays.pass_some.Given as goal

abbrev pub invariant-loop : goal.invariant-loop
invariant-loop l = record {
  same : IsSameBasic l.initial.self l.self;
  at : l.self.at.0 ≤ℤ l.fn.at.0;
}
