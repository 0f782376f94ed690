-- The count is that of the times.
use Rattle.std.proofs.Common.{rules, ◌∙◌, sym, false, true, ◌≡◌}
use Rattle.gtd_conditional_rows.specs.Times.{Never, times_of}
use Rattle.gtd_conditional_rows.proofs.SizeLemmas.{size-after, never-few, always-few, within-test}
use Rattle.gtd_conditional_rows.proofs.count.is_too_much.Goals as goal

pub returns-in-Never : goal.returns-in-Never
returns-in-Never c =
    let e = size-after c.args.steps.now c.args.vehicle Never ∙ sym c.in-Never.ensures in
    ((λ x. let no : false ≡ true = x in cc), (λ lt. absurd (never-few (times_of c.args.steps.now c.args.vehicle) e lt)))

pub returns-in-Always : goal.returns-in-Always
returns-in-Always c =
    let e = size-after c.args.steps.now c.args.vehicle Never ∙ sym c.in-Always.ensures in
    ((λ x. let no : false ≡ true = x in cc), (λ lt. absurd (always-few (times_of c.args.steps.now c.args.vehicle) e lt)))

pub returns-in-Within : goal.returns-in-Within
returns-in-Within c =
    let e = size-after c.args.steps.now c.args.vehicle Never ∙ sym c.in-Within.ensures in
    let most : c.from.result ≡ 128 = search rules in
    within-test (times_of c.args.steps.now c.args.vehicle) c.in-Within.count c.from.result most e
