-- A basic domain is asked in its own horizon; the stays of two sides at one second make that of what the operator joins of them.
use Rattle.std.specs.Prelude.{ℤ}
use Rattle.gtd_eval.specs.Asked.{asked_tree}
use Rattle.gtd_eval.specs.Membership.{InTree}
use Rattle.gtd_eval.specs.Stays.{IsStay}
use Rattle.gtd_eval.specs.facts.StayFacts.{joined_stays}
use Rattle.gtd_eval.proofs.expr_stays.+stay_at.Goals as goal

pub returns-in-Join-clause-stays : goal.returns-in-Join-clause-stays
returns-in-Join-clause-stays t c =
    let at : ℤ = c.args.at.0 in
    let end : ℤ = c.args.end.0 in
    let both = c.in-Join.both.value in
    let l : IsStay (InTree (asked_tree both.0)) at end c.stay_at-first.result =
    rw (← c.deref_mut.ensures.value) c.stay_at-first.ensures.stays in
    let r : IsStay (InTree (asked_tree both.1)) at end c.stay_at-second.result =
    rw (← c.deref_mut.ensures.value) c.stay_at-second.ensures.stays in
    rw c.in-Join.is (joined_stays c.in-Join.op (InTree (asked_tree both.0)) (InTree (asked_tree both.1)) at end
    c.stay_at-first.result c.stay_at-second.result c.joined.result l r c.joined.ensures.joined)

pub returns-in-Basic-clause-stays : goal.returns-in-Basic-clause-stays
returns-in-Basic-clause-stays t c =
    let until = rw c.in-Basic.is at c.requires.end in
    rw (c.in-Basic.is, ← until) c.stay.ensures.stays
