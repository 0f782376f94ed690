-- Expressions that repeat after 7 days.
use Rattle.gtd_core.specs.Trees.{Tree, Single, Joined}
use Rattle.gtd_recur.specs.Weekly.{IsWeekly}

-- each basic domain of the expression repeats after 7 days
abbrev pub AllWeekly : Tree → Type 0
AllWeekly (Single start duration) = IsWeekly start duration
AllWeekly (Joined op left right) = AllWeekly left × AllWeekly right
