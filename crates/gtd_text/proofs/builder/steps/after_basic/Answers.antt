-- Where no basic domain comes nothing can be built.
use Rattle.gtd_text.specs.PendingParts.{sum_of, product_of}
use Rattle.gtd_text.proofs.builder.steps.after_basic.Goals as goal

pub returns-in-None-clause-found : goal.returns-in-None-clause-found
returns-in-None-clause-found c outer r =
    c.in-None.ensures.found outer (sum_of c.args.pending.sum) (product_of c.args.pending.product) r
