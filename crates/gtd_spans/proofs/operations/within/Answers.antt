-- The collected list is the list met with the horizon, so it holds the list's seconds there and is normal.
use Rattle.std.proofs.Common.{◌≡◌, [], ◌∷◌, ◌∙◌}
use Rattle.std.proofs.lemmas.Result.{IfOk-weaker}
use Rattle.gtd_core.specs.Whole.{whole}
use Rattle.gtd_core.specs.declared.domain.Op.TheVariants.{Meet}
use Rattle.gtd_spans.specs.Normal.{combine}
use Rattle.gtd_spans.specs.facts.Whole.{meet-whole}
use Rattle.gtd_spans.proofs.operations.within.Goals as goal

pub returns-clause-seconds : goal.returns-clause-seconds
returns-clause-seconds c =
    let both : combine Meet c.source.result.spans.now (c.whole.result ∷ [])
    ≡ combine Meet c.args.list.now (whole c.args.horizon ∷ []) =
    rw (c.source.ensures.value, c.whole.ensures.value) in
    IfOk-weaker c.collect.result _ _
    (λ r e t. let all : r ≡ combine Meet c.args.list.now (whole c.args.horizon ∷ []) = e ∙ c.new.ensures.list ∙ both in
    rw all (meet-whole (whole c.args.horizon) c.args.list.now t))
    c.collect.ensures.list
