-- The shared part is handed out, and the span that ends first can share nothing with what comes later.
use Rattle.std.proofs.Common.{◌≡◌, ◌↔◌, List, Option, refl, MatchOption}
use Rattle.std.specs.Prelude.{ℤ, ◌≤ℤ◌, ◌<ℤ◌}
use Rattle.gtd_core.specs.Seconds.{Interval, Within}
use Rattle.gtd_core.specs.declared.domain.Op.TheVariants.{Meet}
use Rattle.gtd_spans.specs.declared.merge.Side.TheVariants.{Open, Held}
use Rattle.gtd_spans.specs.declared.merge.Merge.{Merge}
use Rattle.gtd_spans.specs.Merging.{still, Fits}
use Rattle.gtd_spans.proofs.UnionSteps.{Handed, handed-as}
use Rattle.gtd_spans.proofs.MeetSteps.{step-by, moved, meet-left, meet-right, meet-keeps, meet-listed, meet-ends, le-told}
use Rattle.gtd_spans.proofs.MeetSteps.{gt-told}
use Rattle.gtd_spans.proofs.merge.Merge.meet.Goals as goal

module _ (s : Merge) (x y : Interval) (g h : Option Interval) (is : g ≡ h) (op : s.op ≡ Meet) (hl : s.left ≡ Held x)
    (hr : s.right ≡ Held y)
    (both : MatchOption g ((t : ℤ) → Within x t → Within y t → ⊥) (λ m. (t : ℤ) → Within m t ↔ (Within x t × Within y t)))
    (ends : MatchOption g (Unit {0}) (λ m. (m.from <ℤ m.until) × (m.until ≤ℤ x.until) × (m.until ≤ℤ y.until))) where
  met-left : x.until ≤ℤ y.until → (l r : List Interval) → Fits s l r
      → Fits (moved s Open s.right) l r × Handed h (still s l r) (still (moved s Open s.right) l r)
  met-left le l r f =
      let z = step-by Meet s x y Open s.right g op (meet-keeps s.kept) hl hr
      (λ l r n m. (n.2, rw hr m, rw hr (meet-left x y l r g n m le (meet-listed x y g both) (meet-ends x y g ends).0))) l r f in
      (z.0, handed-as g h _ _ is z.1)

  met-right : y.until ≤ℤ x.until → (l r : List Interval) → Fits s l r
      → Fits (moved s s.left Open) l r × Handed h (still s l r) (still (moved s s.left Open) l r)
  met-right le l r f =
      let z = step-by Meet s x y s.left Open g op (meet-keeps s.kept) hl hr
      (λ l r n m. (rw hl n, m.2, rw hl (meet-right x y l r g n m le (meet-listed x y g both) (meet-ends x y g ends).1))) l r f in
      (z.0, handed-as g h _ _ is z.1)

pub returns-in-Some-clause-steps : goal.returns-in-Some-clause-steps
returns-in-Some-clause-steps c =
    met-left c.args.self.now c.args.x c.args.y c.meet-both.result _ c.in-Some.is c.requires.op c.requires.left c.requires.right
    c.meet-both.ensures.seconds c.meet-both.ensures.ends
    (le-told _ _ _ _ c.le.result c.le.ensures c.if-le.true c.until.ensures.value c.until-2.ensures.value)

pub returns-in-None-clause-steps : goal.returns-in-None-clause-steps
returns-in-None-clause-steps c = (
  refl,
  met-left c.args.self.now c.args.x c.args.y c.meet-both.result _ c.in-None.is c.requires.op c.requires.left
      c.requires.right c.meet-both.ensures.seconds c.meet-both.ensures.ends
      (le-told _ _ _ _ c.le.result c.le.ensures c.if-le.true c.until.ensures.value c.until-2.ensures.value),
)

pub returns-in-Some-both-clause-steps : goal.returns-in-Some-both-clause-steps
returns-in-Some-both-clause-steps c =
    met-right c.args.self.now c.args.x c.args.y c.meet-both.result _ c.in-Some-both.is c.requires.op c.requires.left
    c.requires.right c.meet-both.ensures.seconds c.meet-both.ensures.ends
    (gt-told _ _ _ _ c.le.result c.le.ensures c.if-le.false c.until.ensures.value c.until-2.ensures.value)

pub returns-in-None-both-clause-steps : goal.returns-in-None-both-clause-steps
returns-in-None-both-clause-steps c = (
  ((λ h. let k : Held c.args.x ≡ Open = rw c.requires.left at h in cc), refl),
  met-right c.args.self.now c.args.x c.args.y c.meet-both.result _ c.in-None-both.is c.requires.op c.requires.left
      c.requires.right c.meet-both.ensures.seconds c.meet-both.ensures.ends
      (gt-told _ _ _ _ c.le.result c.le.ensures c.if-le.false c.until.ensures.value c.until-2.ensures.value),
)
