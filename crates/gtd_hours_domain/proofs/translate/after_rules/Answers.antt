-- One rule more keeps what is open after all rules, and how many basic domains this takes.
use Rattle.gtd_hours_domain.proofs.CostLemmas.{asked-behind, leaves-after, left-after}
use Rattle.gtd_hours_domain.proofs.SaidLemmas.{one_more-rule}
use Rattle.gtd_hours_domain.proofs.translate.after_rules.Goals as goal

pub loop-rule-preserved : goal.loop-rule-preserved
loop-rule-preserved c =
    let rule = c.in-Some.rule.now in
    let more = c.in-Some.more.now in
    let rest = c.loop-rule.rest.now in
    let split = c.in-Some.ensures.cases.0 in
    let left = c.saturating_sub-left.result in
    let asked = asked-behind left c.loop-rule.left rule more rest split c.loop-rule.invariant.2 c.saturating_sub-left.ensures in (
      (λ s. one_more-rule _ _ _ _ _ _ rule more rest s split asked (c.in_ok-said.ensures.opened s)
          (λ e. c.in_ok-said.ensures.closed e s) (c.loop-rule.invariant.0 s)),
      leaves-after _ _ _ _ _ left c.loop-rule.left rule more rest split c.loop-rule.invariant.2 c.saturating_sub-left.ensures
          c.in_ok-said.ensures.opened_leaves c.in_ok-said.ensures.closed_leaves c.loop-rule.invariant.1,
      left-after left c.loop-rule.left rule more rest split c.loop-rule.invariant.2 c.saturating_sub-left.ensures,
    )
