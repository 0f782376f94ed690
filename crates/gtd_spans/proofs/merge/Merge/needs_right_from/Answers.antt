-- What ends before the left side begins is not in it, and takes nothing away from it.
use Rattle.std.proofs.Common.{◌≡◌, ◌⊎◌, inl, inr}
use Rattle.std.specs.Prelude.{IfSome, Option, Some, None}
use Rattle.gtd_core.specs.Seconds.{Interval}
use Rattle.gtd_core.specs.declared.second.Sec.{Sec}
use Rattle.gtd_core.specs.declared.domain.Op.TheVariants.{Meet, Minus}
use Rattle.gtd_spans.specs.Merging.{AwaitsRight}
use Rattle.gtd_spans.specs.Skipping.{MergeNeedsRightFrom}
use Rattle.gtd_spans.specs.declared.merge.Merge.{Merge}
use Rattle.gtd_spans.specs.declared.merge.Side.TheVariants.{Held}
use Rattle.gtd_spans.proofs.SkipSteps.{right-needed-meet, right-needed-minus}
use Rattle.gtd_spans.proofs.merge.Merge.needs_right_from.Goals as goal

needed : (s : Merge) (r : Option Sec) → (s.op ≡ Meet) ⊎ (s.op ≡ Minus) → AwaitsRight s
    → IfSome r (λ second. (x : Interval) × (s.left ≡ Held x) × (second.0 ≡ x.from))
    → IfSome r (λ second. MergeNeedsRightFrom s second.0)
needed s None op awaits begins = tt
needed s (Some second) (inl op) awaits (x, held, is) = rw is (right-needed-meet s x op held awaits.1)
needed s (Some second) (inr op) awaits (x, held, is) = rw is (right-needed-minus s x op held awaits.1)

pub returns-in-Meet : goal.returns-in-Meet
returns-in-Meet c = record {
  needs = λ awaits. needed c.args.self.now c.begins.result c.in-Meet.is awaits c.begins.ensures.begins;
}
