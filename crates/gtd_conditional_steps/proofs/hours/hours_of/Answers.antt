-- One term more.
use Rattle.gtd_conditional_steps.proofs.TermLemmas.{hours_more}
use Rattle.gtd_conditional_steps.proofs.hours.hours_of.Goals as goal

pub loop-term-preserved : goal.loop-term-preserved
loop-term-preserved c =
    hours_more c.loop-term.hours c.in_ok-hours.hours c.in-Some.term.now c.in-Some.more.now c.loop-term.rest.now
    c.args.terms.now c.in-Some.ensures.cases.0 c.in_ok-hours.ensures c.loop-term.invariant
