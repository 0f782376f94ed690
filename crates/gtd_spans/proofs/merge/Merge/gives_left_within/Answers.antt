-- What lies inside of the right side's next span, or ends before it, is handed out as it is.
use Rattle.std.specs.Prelude.{Option, Some, None}
use Rattle.gtd_spans.specs.Inside.{AllInside}
use Rattle.gtd_spans.specs.Merging.{AwaitsLeft, GivesLeft, IsLeftGiven}
use Rattle.gtd_spans.specs.declared.bounds.Bounds.{Bounds}
use Rattle.gtd_spans.specs.declared.merge.Merge.{Merge}
use Rattle.gtd_spans.proofs.GivenSteps.{gives-left}
use Rattle.gtd_spans.proofs.merge.Merge.gives_left_within.Goals as goal

all-given : (s : Merge) (found : Option Bounds) → AwaitsLeft s → AllInside found (IsLeftGiven s) → AllInside found (GivesLeft s)
all-given s None awaits inside = tt
all-given s (Some bounds) awaits inside = λ x lies. gives-left s x (inside x lies) awaits

pub returns-in-Meet : goal.returns-in-Meet
returns-in-Meet c = record {
  gives = λ awaits. all-given c.args.self.now c.covered.result awaits (rw c.in-Meet.is c.covered.ensures.covered);
}

pub returns-in-Minus : goal.returns-in-Minus
returns-in-Minus c = record {
  gives = λ awaits. all-given c.args.self.now c.earlier.result awaits (rw c.in-Minus.is c.earlier.ensures.earlier);
}
