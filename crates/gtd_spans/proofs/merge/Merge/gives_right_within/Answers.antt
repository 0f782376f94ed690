-- What lies inside of the left side's next span is handed out as it is.
use Rattle.std.specs.Prelude.{Option, Some, None}
use Rattle.gtd_core.specs.Seconds.{Interval}
use Rattle.gtd_spans.specs.Inside.{AllInside}
use Rattle.gtd_spans.specs.Merging.{AwaitsRight, GivesRight, IsRightGiven}
use Rattle.gtd_spans.specs.declared.bounds.Bounds.{Bounds}
use Rattle.gtd_spans.specs.declared.merge.Merge.{Merge}
use Rattle.gtd_spans.proofs.GivenSteps.{gives-right}
use Rattle.gtd_spans.proofs.merge.Merge.gives_right_within.Goals as goal

all-given : (s : Merge) (found : Option Bounds) → AwaitsRight s → AllInside found (IsRightGiven s)
    → AllInside found (GivesRight s)
all-given s None awaits inside = tt
all-given s (Some bounds) awaits inside = λ x lies. gives-right s x (inside x lies) awaits

pub returns-in-Meet : goal.returns-in-Meet
returns-in-Meet c = record {
  gives = λ awaits. all-given c.args.self.now c.covered.result awaits (rw c.in-Meet.is c.covered.ensures.covered);
}
