-- What starts, durations and domains are made from.
use Rattle.gtd_core.specs.declared.start.Start.{Start}
use Rattle.gtd_core.specs.declared.start.StartParts.{StartParts}
use Rattle.gtd_core.specs.declared.duration.Duration.{Duration}
use Rattle.gtd_core.specs.declared.duration.DurationParts.{DurationParts}
use Rattle.gtd_core.specs.declared.domain.Domain.{Domain}
use Rattle.gtd_core.specs.declared.domain.Expr.{Expr}
use Rattle.gtd_core.specs.Trees.{Tree, tree_of}

-- the fields of a start
abbrev pub start_parts : Start → StartParts
start_parts start = start.parts

-- the numbers of a duration
abbrev pub duration_parts : Duration → DurationParts
duration_parts duration = duration.parts

-- the expression of a domain
abbrev pub domain_expr : Domain → Expr
domain_expr domain = domain.expr

-- the tree of a domain's expression
abbrev pub domain_tree : Domain → Tree
domain_tree domain = tree_of domain.expr
