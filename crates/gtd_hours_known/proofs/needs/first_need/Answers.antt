-- A rule needs what it needs, whether it is asked for the rules behind it or for how many are left.
use Rattle.gtd_hours_known.specs.Needs.{first_need}
use Rattle.gtd_hours_known.proofs.NeedFacts.{left_after, need_behind, need_more}
use Rattle.gtd_hours_known.proofs.needs.first_need.Goals as goal

pub loop-rule-preserved : goal.loop-rule-preserved
loop-rule-preserved c =
    let known = c.args.known.now in
    let all = first_need known c.args.rules.now in
    let rule = c.in-Some.rule.now in
    let more = c.in-Some.more.now in
    let rest = c.loop-rule.rest.now in
    let left = c.saturating_sub-left.result in (
      need_behind known c.need_before.result all more c.in_default-need_before.is
          (need_more known left c.loop-rule.left c.need_before.result all rule more rest c.in-Some.ensures.cases.0
          c.loop-rule.invariant.1 c.saturating_sub-left.ensures c.need_before.ensures c.loop-rule.invariant.0),
      left_after left c.loop-rule.left rule more rest c.in-Some.ensures.cases.0 c.loop-rule.invariant.1
          c.saturating_sub-left.ensures,
    )
