-- Membership at the second, and its first change after it or the end of the horizon, make the stay.
use Rattle.gtd_eval.proofs.stay.basic_stay.Goals as goal

pub returns : goal.returns
returns c =
    let end = c.basic_end.ensures.end in
    record {
      stays = record { holds = c.covers-holds.ensures.member; later = end.later; within = end.within; same = end.same };
      far = end.far;
    }
