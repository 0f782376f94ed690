-- One more span ends by the second.
use Rattle.std.proofs.Common.{rules}
use Rattle.std.specs.Prelude.{◌≤ℤ◌}
use Rattle.gtd_kept.proofs.RoundLemmas.{done-more}
use Rattle.gtd_kept.proofs.repeat.are_done_by.Goals as goal

pub loop-at-preserved : goal.loop-at-preserved
loop-at-preserved c =
    let span = c.index-spans-at.result in
    let ends : span.until ≤ℤ c.args.second.0 = search rules in
    record {
      done = done-more c.args.second.0 c.loop-at.at c.args.spans.now span (search rules) c.index-spans-at.is c.until.ensures.not_empty ends
          c.loop-at.invariant.done;
    }
