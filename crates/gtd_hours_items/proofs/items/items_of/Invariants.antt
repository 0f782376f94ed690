-- The items so far, and any of the tokens left, are those of the text.
use Rattle.std.proofs.Common.{List, ◌++◌, length}
use Rattle.gtd_hours_items.specs.Items.{AreItems, AreItemsLeft}
use Rattle.gtd_hours_items.specs.declared.items.Item.{Item}
use Rattle.gtd_hours_items.proofs.items.items_of.Given as goal

abbrev pub invariant-loop-token : goal.invariant-loop-token
invariant-loop-token l =
    (more : List Item) → AreItemsLeft l.skipped l.before l.text l.rest more → AreItems l.text l.tokens (l.items.items ++ more)

abbrev pub decreases-loop-token : goal.decreases-loop-token
decreases-loop-token l = length l.rest
