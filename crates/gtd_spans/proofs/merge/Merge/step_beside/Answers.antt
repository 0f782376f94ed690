-- With no left span to come, a difference in need of one ends and gives nothing more.
use Rattle.std.proofs.Common.{◌≡◌, ◌∙◌, sym, [], None}
use Rattle.gtd_core.specs.declared.domain.Op.TheVariants.{Minus}
use Rattle.gtd_spans.specs.Merging.{still}
use Rattle.gtd_spans.specs.declared.merge.Merge.{Merge}
use Rattle.gtd_spans.specs.declared.merge.Side.TheVariants.{Ended, Open}
use Rattle.gtd_spans.proofs.UnionSteps.{union-nil}
use Rattle.gtd_spans.proofs.MeetSteps.{minus-keeps, nothing-minus}
use Rattle.gtd_spans.proofs.merge.Merge.step_beside.Goals as goal

pub returns-in-Left-clause-steps : goal.returns-in-Left-clause-steps
returns-in-Left-clause-steps c = λ l f.
    let mid : Merge = c.step.new.self in
    let new : Merge = record { op = mid.op; left = Ended; right = mid.right; kept = mid.kept } in
    let awaits : mid.left ≡ Open = c.in-Left.ensures.steps.0 in
    let step = c.in-Left.ensures.steps.1 [] l f in
    let op : mid.op ≡ Minus = c.in-Left.ensures.op ∙ c.requires.op in
    let none : mid.kept ≡ None = minus-keeps mid.kept (rw op at step.0.keeps) in
    let before : still mid [] l ≡ [] = rw (none, op, awaits, nothing-minus) (union-nil [] tt) in
    let after : still new [] l ≡ [] = rw (none, op, nothing-minus) (union-nil [] tt) in (
      record { left = tt; right = step.0.right; kept = rw none tt; keeps = step.0.keeps },
      step.1 ∙ before ∙ sym after,
      step.1 ∙ before,
    )
