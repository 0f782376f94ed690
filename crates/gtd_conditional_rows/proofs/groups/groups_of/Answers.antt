-- The rows of all types.
use Rattle.gtd_conditional_rows.proofs.GroupLemmas.{no-groups}
use Rattle.gtd_conditional_rows.proofs.groups.groups_of.Goals as goal

pub loop-vehicle-init : goal.loop-vehicle-init
loop-vehicle-init c =
    no-groups c.args.side.steps.now c.args.side.direction c.args.side.others.now c.new-rows.result.items c.new-rows.ensures.items
