-- The spans in a week of what repeats weekly.
use Rattle.std.specs.Prelude.{List, pos}
use Rattle.gtd_core.specs.Seconds.{Interval}
use Rattle.gtd_core.specs.Trees.{Tree}
use Rattle.gtd_eval.specs.Membership.{InTree}
use Rattle.gtd_eval.specs.Weekly.{AllWeekly}
use Rattle.gtd_spans.specs.Normal.{IsNormalFor}

-- the expression repeats after 7 days, and these are its spans in the week from second 0 on
pub record IsWeekOf (tree : Tree) (spans : List Interval) : Type 0 where
  pub weekly : AllWeekly tree
  pub normal : IsNormalFor (InTree tree) (pos 0) (pos 604_800) spans
