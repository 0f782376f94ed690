-- One term more.
use Rattle.gtd_rows.specs.Serving.{Serves}
use Rattle.gtd_conditional_steps.specs.Hours.{EachHoldsFor}
use Rattle.gtd_conditional_steps.proofs.TermLemmas.{types_more}
use Rattle.gtd_conditional_steps.proofs.types.types_for.Goals as goal

pub loop-term-preserved : goal.loop-term-preserved
loop-term-preserved c =
    let rows = c.args.means.now.rows.items in
    types_more rows c.loop-term.types c.with_term-types.result c.in-Some.term.now c.in-Some.more.now c.loop-term.rest.now
    (λ t. Serves c.args.mode.now t × EachHoldsFor rows c.args.terms.now t) c.in-Some.ensures.cases.0
    c.with_term-types.ensures c.loop-term.invariant
