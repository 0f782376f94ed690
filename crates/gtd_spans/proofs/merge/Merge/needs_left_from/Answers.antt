-- What ends before the right side begins is not in it.
use Rattle.std.proofs.Common.{◌≡◌}
use Rattle.std.specs.Prelude.{IfSome, Option, Some, None}
use Rattle.gtd_core.specs.Seconds.{Interval}
use Rattle.gtd_core.specs.declared.second.Sec.{Sec}
use Rattle.gtd_core.specs.declared.domain.Op.TheVariants.{Meet}
use Rattle.gtd_spans.specs.Merging.{AwaitsLeft}
use Rattle.gtd_spans.specs.Skipping.{MergeNeedsLeftFrom}
use Rattle.gtd_spans.specs.declared.merge.Merge.{Merge}
use Rattle.gtd_spans.specs.declared.merge.Side.TheVariants.{Held}
use Rattle.gtd_spans.proofs.SkipSteps.{left-needed}
use Rattle.gtd_spans.proofs.merge.Merge.needs_left_from.Goals as goal

needed : (s : Merge) (r : Option Sec) → s.op ≡ Meet → AwaitsLeft s
    → IfSome r (λ second. (x : Interval) × (s.right ≡ Held x) × (second.0 ≡ x.from))
    → IfSome r (λ second. MergeNeedsLeftFrom s second.0)
needed s None op awaits begins = tt
needed s (Some second) op awaits (x, held, is) = rw is (left-needed s x op awaits held)

pub returns-in-Meet : goal.returns-in-Meet
returns-in-Meet c = record {
  needs = λ awaits. needed c.args.self.now c.begins.result c.in-Meet.is awaits c.begins.ensures.begins;
}
