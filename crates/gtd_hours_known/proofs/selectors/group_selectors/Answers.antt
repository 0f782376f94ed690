-- Each group that is passed becomes a selector of its days.
use Rattle.std.proofs.Common.{◌≡◌, ◌∙◌, ◌∷◌, ◌++◌, [], List, ap, sym, append_assoc}
use Rattle.gtd_hours_days.specs.declared.group.Group.{Group}
use Rattle.gtd_hours_known.proofs.DayFacts.{groups_more}
use Rattle.gtd_hours_known.proofs.selectors.group_selectors.Goals as goal

pub loop-group-preserved : goal.loop-group-preserved
loop-group-preserved c =
    let group = c.in-Some.group.now in
    let more = c.in-Some.more.now in
    let split : c.loop-group.rest.now ≡ group ∷ more = c.in-Some.ensures.cases.0 in
    let so_far = c.loop-group.invariant in (
      so_far.0 ++ group ∷ [],
      so_far.1 ∙ ap (λ (l : List Group). so_far.0 ++ l) split ∙ sym (append_assoc so_far.0 (group ∷ []) more),
      rw c.in_ok-push.ensures.items
          (groups_more c.args.years so_far.0 group c.loop-group.days.items c.group_selector.result so_far.2
          c.group_selector.ensures),
    )
