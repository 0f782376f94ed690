-- No second is known yet; and a period that is found is one after which the basic domain repeats.
use Rattle.std.proofs.Common.{arith}
use Rattle.std.proofs.lemmas.Int.{ints}
use Rattle.gtd_difference.proofs.FixedDates.{repeats-if}
use Rattle.gtd_difference.proofs.basic_state.BasicState.new.Goals as goal

pub returns-clause-known : goal.returns-clause-known
returns-clause-known c =
    let begin = c.from-2.ensures.value in
    let first = c.from.ensures.value in
    record {
      repeats = repeats-if c.period_of-period.result _ _ c.period_of-period.ensures.period;
      within = omega (arith, ints, begin, c.args.days.not_empty);
      held = λ t later before. absurd (omega (arith, ints, later, before, begin, first));
    }
