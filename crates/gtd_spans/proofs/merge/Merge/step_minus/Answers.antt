-- Once the right side has ended, the left spans are given as they are; once the left has ended, nothing is.
use Rattle.std.proofs.Common.{◌≡◌, [], ◌∷◌, Some, None, refl}
use Rattle.gtd_core.specs.declared.domain.Op.TheVariants.{Minus}
use Rattle.gtd_spans.specs.Normal.{IsNormal}
use Rattle.gtd_spans.specs.declared.merge.Side.TheVariants.{Open}
use Rattle.gtd_spans.proofs.MeetSteps.{moved-on, nothing-more, minus-keeps, nothing-minus}
use Rattle.gtd_spans.proofs.MinusSteps.{give-left}
use Rattle.gtd_spans.proofs.merge.Merge.step_minus.Goals as goal

pub returns-in-Ended-right-clause-steps : goal.returns-in-Ended-right-clause-steps
returns-in-Ended-right-clause-steps c = λ l r f.
    let s = c.args.self.now in
    let none : s.kept ≡ None = minus-keeps s.kept (rw c.requires.op at f.keeps) in
    let n : IsNormal (c.in-Held.x ∷ l) = rw c.in-Held.is at f.left in
    moved-on Minus s Open s.right (Some c.in-Held.x) l r c.requires.op none f n.2 f.right
    (rw (c.in-Held.is, c.in-Ended-right.is) (give-left c.in-Held.x l [] n tt))

pub returns-in-Ended-clause-steps : goal.returns-in-Ended-clause-steps
returns-in-Ended-clause-steps c = nothing-more Minus c.args.self.now c.requires.op (minus-keeps c.args.self.now.kept)
    (λ l r. rw (c.in-Ended.is, nothing-minus) refl)
