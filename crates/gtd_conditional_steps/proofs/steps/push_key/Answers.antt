-- The steps of one tag more.
use Rattle.std.proofs.Common.{subst, List, [], if◌then◌else◌}
use Rattle.gtd_conditional_steps.specs.Sayings.{is_of_key, said_by_key, said_by_parts}
use Rattle.gtd_conditional_steps.specs.declared.tag.Tag.{Tag}
use Rattle.gtd_conditional_steps.proofs.StepLemmas.{AddsOn, on_more}
use Rattle.gtd_conditional_steps.proofs.steps.push_key.Goals as goal

pub loop-tag-preserved : goal.loop-tag-preserved
loop-tag-preserved c =
    let rows = c.args.asked.means.now.rows.items in
    let key = c.args.key in
    let tag = c.in-Some.tag.now in
    let all = said_by_key c.args.types.now key.mode key.direction key.conditional c.args.tags.now in
    on_more rows c.args.asked.direction
    (if is_of_key key.mode key.direction key.conditional tag then said_by_parts c.args.types.now tag.value.parts.items else [])
    (said_by_key c.args.types.now key.mode key.direction key.conditional c.in-Some.more.now) all c.args.steps.now.items
    c.loop-tag.steps.items c.push_tag.new.steps.items c.in_ok-push_tag.ensures
    (subst
    (λ (tags : List Tag). AddsOn rows c.args.asked.direction
    (said_by_key c.args.types.now key.mode key.direction key.conditional tags) all c.args.steps.now.items
    c.loop-tag.steps.items) c.in-Some.ensures.cases.0 c.loop-tag.invariant)
