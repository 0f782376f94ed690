-- Each stretch begins at the one time of the day at which the start's clock stands, or between the first and the last such time.
use Rattle.std.proofs.Common.{◌+◌}
use Rattle.gtd_mistakes.specs.Shapes.{begin_of}
use Rattle.gtd_core.specs.Ranges.{clock_seconds}
use Rattle.gtd_warnings.proofs.EndTimes.{at_time, goes_on, named_end, next_day, stays}
use Rattle.gtd_warnings.proofs.laws.named_ends.Goals as goal

pub returns : goal.returns
returns c = record {
  duration = λ whole s d h b e matches stops.
      let is = h.1 in at_time b e (begin_of s + clock_seconds d) (named_end s d b e matches stops is.0.0 is.1 is.2);
  midnight = λ whole s d h b e matches stops.
      next_day b e (begin_of s) (clock_seconds d) (named_end s d b e matches stops h.0 h.1 h.2) h.3 h.4 h.5;
  stays = λ s d h b e matches stops. stays s d b e matches stops h;
  night = λ s d h b e matches stops. goes_on s d b e matches stops h;
}
