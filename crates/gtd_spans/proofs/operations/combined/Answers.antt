-- The collected list is the combination of both lists, so it is normal and holds what the operator says.
use Rattle.std.proofs.Common.{◌≡◌, ◌∙◌}
use Rattle.std.proofs.lemmas.Result.{IfOk-weaker}
use Rattle.gtd_spans.specs.Normal.{combine}
use Rattle.gtd_spans.specs.facts.Combining.{combine-holds}
use Rattle.gtd_spans.proofs.operations.combined.Goals as goal

pub returns-clause-seconds : goal.returns-clause-seconds
returns-clause-seconds c =
    let both : combine c.args.op c.source.result.spans.now c.source-2.result.spans.now
    ≡ combine c.args.op c.args.a.now c.args.b.now =
    rw (c.source.ensures.value, c.source-2.ensures.value) in
    IfOk-weaker c.collect.result _ _
    (λ r e t. let all : r ≡ combine c.args.op c.args.a.now c.args.b.now = e ∙ c.new.ensures.list ∙ both in
    rw all (combine-holds c.args.op c.args.a.now c.args.b.now t))
    c.collect.ensures.list
