-- The stays of two sides at one second make that of what the operator joins of them.
use Rattle.std.specs.Prelude.{ℤ}
use Rattle.gtd_core.specs.Whole.{whole}
use Rattle.gtd_eval.specs.Stays.{IsStay}
use Rattle.gtd_eval.specs.facts.StayFacts.{joined_stays}
use Rattle.gtd_difference.specs.Pieces.{InFixed}
use Rattle.gtd_difference.proofs.states.+fixed_stay.Goals as goal

pub returns-in-Join-clause-stays : goal.returns-in-Join-clause-stays
returns-in-Join-clause-stays t c =
    let at : ℤ = c.args.at.0 in
    let end : ℤ = (whole c.args.days).until in
    let both = c.in-Join.both.value in
    let l : IsStay (InFixed both.0) at end c.fixed_stay-first.result =
    rw (← c.deref_mut.ensures.value) c.fixed_stay-first.ensures.stays in
    let r : IsStay (InFixed both.1) at end c.fixed_stay-second.result =
    rw (← c.deref_mut.ensures.value) c.fixed_stay-second.ensures.stays in
    rw c.in-Join.is (joined_stays c.in-Join.op (InFixed both.0) (InFixed both.1) at end
    c.fixed_stay-first.result c.fixed_stay-second.result c.joined.result l r c.joined.ensures.joined)

pub returns-in-Dated-clause-fixed : goal.returns-in-Dated-clause-fixed
returns-in-Dated-clause-fixed t c = rw c.in-Dated.is c.stay.ensures.fixed
