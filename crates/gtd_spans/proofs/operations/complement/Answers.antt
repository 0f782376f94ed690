-- The collected list is the horizon less the list, so it holds the horizon's other seconds and is normal.
use Rattle.std.proofs.Common.{◌≡◌, [], ◌∷◌, ◌∙◌}
use Rattle.std.proofs.lemmas.Result.{IfOk-weaker}
use Rattle.gtd_core.specs.Whole.{whole}
use Rattle.gtd_core.specs.declared.domain.Op.TheVariants.{Minus}
use Rattle.gtd_spans.specs.Normal.{combine}
use Rattle.gtd_spans.specs.facts.Whole.{minus-whole}
use Rattle.gtd_spans.proofs.operations.complement.Goals as goal

pub returns-clause-seconds : goal.returns-clause-seconds
returns-clause-seconds c =
    let both : combine Minus (whole c.args.horizon ∷ []) c.source.result.spans.now
    ≡ combine Minus (whole c.args.horizon ∷ []) c.args.list.now =
    rw c.source.ensures.value in
    IfOk-weaker c.collect.result _ _
    (λ r e t. let all : r ≡ combine Minus (whole c.args.horizon ∷ []) c.args.list.now = e ∙ c.new.ensures.list ∙ both in
    rw all (minus-whole (whole c.args.horizon) c.args.list.now t))
    c.collect.ensures.list
