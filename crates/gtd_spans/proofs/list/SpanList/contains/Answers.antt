-- A second is in the list exactly if one of its spans holds it: those passed do not, and no span is left at the end.
use Rattle.std.proofs.Common.{◌≡◌, List, true, false, refl, subst, take, ◌+◌, ◌∙◌, inl, inr}
use Rattle.gtd_core.specs.Seconds.{Interval}
use Rattle.gtd_spans.specs.Normal.{Holds}
use Rattle.gtd_spans.proofs.Pushed.{holds-more, holds-take}
use Rattle.gtd_spans.proofs.list.SpanList.contains.Goals as goal

pub loop-x-preserved : goal.loop-x-preserved
loop-x-preserved c = λ h.
    elim ((holds-more c.deref-x-items.result.now c.loop-x.x-index c.x-item.result c.args.second.0 c.loop-x-test.true
    c.x-item.is).0 h) [
      | inl k ↦ c.loop-x.invariant k
      | inr w ↦ let b : false ≡ true = c.if-contains.ensures.member.1 w in cc
    ]

pub returns-then-contains : goal.returns-then-contains
returns-then-contains c =
    let xs : List Interval = c.deref-x-items.result.now in
    let same : xs ≡ c.args.self.now = c.deref-x-items.ensures.value ∙ c.self.view_is in
    let here : Holds (take (c.loop-x.x-index + 1) xs) c.args.second.0 =
    (holds-more xs c.loop-x.x-index c.x-item.result c.args.second.0 c.loop-x-test.true c.x-item.is).1
    (inr (c.if-contains.ensures.member.0 refl)) in record {
      member = (
        (λ h. subst (λ (ys : List Interval). Holds ys c.args.second.0) same
            (holds-take (c.loop-x.x-index + 1) xs c.args.second.0 here)),
        (λ h. refl),
      );
    }
