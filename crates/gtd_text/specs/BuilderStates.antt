-- The builder's state, without where it lies in memory.
use Rattle.std.specs.Prelude.{List, map, reverse}
use Rattle.gtd_core.specs.Trees.{tree_of}
use Rattle.gtd_text.specs.declared.builder.state.Pending.{Pending}
use Rattle.gtd_text.specs.declared.builder.state.State.{State}
use Rattle.gtd_text.specs.declared.builder.state.State.TheVariants as state
use Rattle.gtd_text.specs.Building as building
use Rattle.gtd_text.specs.PendingParts.{sum_of, product_of}

-- What is kept of what comes before an item.
abbrev pub pending_of : Pending → building.Pending
pending_of pending = (sum_of pending.sum, product_of pending.product)

-- What comes before the open brackets, the innermost first.
unfoldable pub opened : List Pending → List building.Pending
opened outer = reverse (map pending_of outer)

-- What is kept of a state, given what comes before the open brackets.
abbrev pub stage_of : List building.Pending → State → building.State
stage_of outer (state.Expecting p) =
    building.Expecting outer (sum_of p.sum) (product_of p.product)
stage_of outer (state.AfterItem sum term) =
    building.AfterItem outer (sum_of sum) (tree_of term)
