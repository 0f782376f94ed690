-- A state that changes before the walk's end holds up to there.
use Rattle.std.proofs.Common.{arith}
use Rattle.std.proofs.lemmas.Int.{ints}
use Rattle.gtd_ask.proofs.walk.held_until.Goals as goal

pub returns-then-until-walk : goal.returns-then-until-walk
returns-then-until-walk c =
    let within = c.if-until-walk.true in
    record {
      held = rw (c.held_from.ensures.value) record {
        same = λ t le lt. c.requires.same t le lt (omega (arith, ints, lt, within));
        turns = λ e. c.requires.turns (omega (arith, ints, within));
      };
    }
