-- The beginning of a rule ends the one in the draft, which becomes the last of the rules, and leaves an empty draft.
use Rattle.gtd_hours_text.specs.declared.builder.Building.{Building}
use Rattle.gtd_hours_text.proofs.BuildingLemmas.{rule_built, rule_part}
use Rattle.gtd_hours_text.proofs.builder.with_rule.Goals as goal

pub returns : goal.returns
returns c =
    let then : Building = record { rules = c.push.new.self; draft = c.new_draft.result } in
    rule_part c.args.so_far then c.args.link
    (rule_built c.args.so_far c.args.link c.in_ok-rule.rule then c.in_ok-rule.ensures c.in_ok-push.ensures.items
    c.new_draft.ensures.empty c.new_draft.ensures.link)
