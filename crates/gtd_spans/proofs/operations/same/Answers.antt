-- Equal lists hold the same seconds, and normal lists of the same seconds are equal.
use Rattle.std.proofs.Common.{◌≡◌, List, sym, ◌∙◌, ap, subst}
use Rattle.std.specs.Bool.{Decides}
use Rattle.std.proofs.lemmas.Bool.Decides.{Decides-int_eq}
use Rattle.std.proofs.lemmas.Slice.Eq.{slice_eq-Decides}
use Rattle.gtd_core.specs.Seconds.{Interval}
use Rattle.gtd_core.specs.contracts.second.SpanPartialEq.TheImpl.{eq-value}
use Rattle.gtd_core.specs.declared.domain.Op.TheVariants.{Meet}
use Rattle.gtd_spans.specs.Normal.{Holds}
use Rattle.gtd_spans.specs.facts.OneList.{one-list, same-interval}
use Rattle.gtd_spans.specs.facts.Combining.{combined-decides}
use Rattle.gtd_spans.proofs.operations.same.Goals as goal

eq-decides : (x y : Interval) → Decides (eq-value.it x y) (x ≡ y)
eq-decides x y =
    let d = combined-decides Meet _ _ _ _ (Decides-int_eq x.from y.from) (Decides-int_eq x.until y.until) in (
      (λ h. let k = d.0 h in same-interval x y k.0 k.1),
      (λ e. d.1 (ap (λ (i : Interval). i.from) e, ap (λ (i : Interval). i.until) e)),
    )

pub returns : goal.returns
returns c =
    let left : c.spans.result.now ≡ c.args.a.now = c.spans.ensures.value in
    let right : c.spans-2.result.now ≡ c.args.b.now = c.spans-2.ensures.value in
    let d = slice_eq-Decides eq-decides c.spans.result.now c.spans-2.result.now c.eq.result c.eq.ensures in record {
      seconds = (
        (λ h t. let e : c.args.a.now ≡ c.args.b.now = sym left ∙ d.0 h ∙ right in
            ((λ k. subst (λ (xs : List Interval). Holds xs t) e k), (λ k. subst (λ (xs : List Interval). Holds xs t) (sym e) k))),
        (λ s. d.1 (left ∙ one-list c.args.a.now c.args.b.now c.spans.ensures.normal c.spans-2.ensures.normal s ∙ sym right)),
      );
    }
