-- The seconds of a basic domain as a normal list.
use Rattle.std.specs.Prelude.{ℤ, List}
use Rattle.gtd_core.specs.Parts.{start_parts, duration_parts}
use Rattle.gtd_core.specs.Seconds.{Interval}
use Rattle.gtd_core.specs.declared.domain.Basic.{Basic}
use Rattle.gtd_spans.specs.facts.SomeList.{some-normal-list}
use Rattle.gtd_recur.specs.Membership.{InBasic}
use Rattle.gtd_recur.specs.facts.StretchDecisions.{in_stretches}

-- the normal list of a basic domain's seconds between two seconds
unfoldable pub basic_list : Basic → ℤ → ℤ → List Interval
basic_list d from until =
    (some-normal-list (InBasic d) (λ t. in_stretches (start_parts d.start) (duration_parts d.duration) t) from until).0
