-- The text begins with the moments of second 0, over which those of the given second are written.
use Rattle.gtd_schedule.proofs.FirstMoments.{are_first}
use Rattle.gtd_schedule.proofs.MomentParts.{from_shown, until_shown}
use Rattle.gtd_schedule.proofs.line.FirstMoments.of.Goals as goal

pub write_moment-requires-clause-shown : goal.write_moment-requires-clause-shown
write_moment-requires-clause-shown c =
    from_shown _ _ are_first c.split_at_mut-from.result.0.now c.split_at_mut-from.ensures.front

pub write_moment-requires-2-clause-shown : goal.write_moment-requires-2-clause-shown
write_moment-requires-2-clause-shown c =
    until_shown _ _ are_first c.split_at_mut-from.result.1.now c.split_at_mut-from.ensures.back
