-- Each run takes the next hundred of the years that are left, and the last one takes all of them.
use Rattle.std.proofs.Common.{◌+◌, ◌-◌, ◌≤◌, arith}
use Rattle.gtd_hours_leaves.specs.Leaves.{HasNumber, minutes_of, moved_day}
use Rattle.gtd_hours_leaves.specs.declared.level.Level.TheVariants.{Year}
use Rattle.gtd_hours_leaves.proofs.PieceLemmas.{one_more-run, runs-left}
use Rattle.gtd_hours_leaves.proofs.numbers.unite_runs.Goals as goal

pub loop-begin-preserved : goal.loop-begin-preserved
loop-begin-preserved c =
    let begin = c.loop-begin.begin in
    let within : begin + 100 ≤ c.args.last = omega (arith, c.loop-begin-test.true, c.loop-begin.invariant.order) in
    record {
      order = within;
      days = λ s. one_more-run _ _ _ _ (λ k. HasNumber Year k (moved_day (minutes_of c.args.clock) s)) begin (begin + 100 - 1)
          (begin + 100) c.args.last (omega arith) within (omega arith) (c.year_run.ensures.days s)
          (c.in_ok-expr.ensures.seconds s)
          (c.loop-begin.invariant.days s);
      leaves = runs-left begin c.args.last _ _ _ within (omega (arith, c.in_ok-expr.ensures.leaves, c.year_run.ensures.leaves))
          c.loop-begin.invariant.leaves;
    }
