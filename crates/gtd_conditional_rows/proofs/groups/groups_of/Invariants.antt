use Rattle.gtd_conditional_rows.specs.Groups.{GroupedTo}
use Rattle.gtd_conditional_rows.proofs.groups.groups_of.Given as goal

-- the rows of the types so far
abbrev pub invariant-loop-vehicle : goal.invariant-loop-vehicle
invariant-loop-vehicle l = GroupedTo l.side.steps.now l.side.direction l.side.others.now l.vehicle l.rows.items
