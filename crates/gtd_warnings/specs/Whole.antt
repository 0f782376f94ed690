-- What is found of a domain as a whole.
use Rattle.std.specs.Prelude.{Option}
use Rattle.gtd_core.specs.Trees.{Tree}
use Rattle.gtd_core.specs.declared.horizon.Horizon.{Horizon}
use Rattle.gtd_warnings.specs.Extents.{HoldsThroughout}
use Rattle.gtd_warnings.specs.Found.{IsFound}
use Rattle.gtd_warnings.specs.RowsTold.{IsOnDay}
use Rattle.gtd_warnings.specs.declared.whole.WholeRules.{WholeRules}

-- the rule that holds of the expression throughout, and the one on the first of the days, each if one does
pub record AreOfWhole (days : Option Horizon) (tree : Tree) (rules : WholeRules) : Type 0 where
  pub throughout : IsFound (HoldsThroughout tree) rules.throughout
  pub on_day : IsFound (IsOnDay days tree) rules.on_day
