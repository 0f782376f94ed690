-- A rule needs what it needs, whether it is asked for the rules after it or for how many are left.
use Rattle.gtd_hours2.specs.Stored.{rule_of}
use Rattle.gtd_hours_plain2.specs.Needs.{first_need}
use Rattle.gtd_hours_plain2.proofs.Falling.{left_after, need_behind, need_more}
use Rattle.gtd_hours_plain2.proofs.needs.first_need.Goals as goal

pub loop-rule-preserved : goal.loop-rule-preserved
loop-rule-preserved c =
    let d = c.args.days in
    let g = c.args.times.now in
    let all = first_need d g c.args.rules.now in
    let rule = rule_of c.in-Some.rule in
    let more = c.in-Some.more in
    let rest = c.loop-rule.rest in
    let k = c.saturating_sub-left.result in
    let i = c.loop-rule.passed.rules in
    let n = c.loop-rule.passed.parts in
    record {
      need = need_behind d g i c.in_ok-next.next.rules n c.in_ok-next.next.parts c.rule_need.result all rule more
          c.in_default-rule_need.is c.in_ok-next.ensures.rules c.in_ok-next.ensures.parts
          (need_more d g k c.loop-rule.left i n c.rule_need.result all rule more rest c.in-Some.ensures.value
          c.loop-rule.invariant.left c.saturating_sub-left.ensures c.rule_need.ensures c.loop-rule.invariant.need);
      left = left_after k c.loop-rule.left rule more rest c.in-Some.ensures.value c.loop-rule.invariant.left
          c.saturating_sub-left.ensures;
    }
