-- The spans without other seconds are added.
use Rattle.gtd_hours_domain.proofs.SpanLemmas.{or-same}
use Rattle.gtd_hours_domain.proofs.SaidLemmas.{rest-of}
use Rattle.gtd_hours_domain.proofs.said.with_rest.Goals as goal

pub returns-clause-seconds : goal.returns-clause-seconds
returns-clause-seconds c s =
    or-same _ _ _ _ (rest-of _ _ _ _ (c.in_ok-more.ensures.seconds s) (c.in_ok-spans.ensures.seconds s))
    (c.in_ok-expr.ensures.seconds s)
