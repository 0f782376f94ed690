-- Spans that are handed out as their side gives them: the state stays.
use Rattle.std.proofs.Common.{◌≡◌, ◌↔◌, List, [], ◌∷◌, inl, inr, arith, Option, Some, None}
use Rattle.std.specs.Prelude.{ℤ, ◌≤ℤ◌}
use Rattle.std.proofs.lemmas.Int.{ints}
use Rattle.gtd_core.specs.Seconds.{Interval, Within}
use Rattle.gtd_core.specs.declared.domain.Op.{Op}
use Rattle.gtd_core.specs.declared.domain.Op.TheVariants.{Union, Meet, Minus}
use Rattle.gtd_spans.specs.Normal.{Holds, IsNormal, combine}
use Rattle.gtd_spans.specs.declared.merge.Side.{Side}
use Rattle.gtd_spans.specs.declared.merge.Side.TheVariants.{Open, Held, Ended}
use Rattle.gtd_spans.specs.declared.merge.Merge.{Merge}
use Rattle.gtd_spans.specs.Merging.{side_list, OnlyUnionKeeps, IsLeftGivenBy, IsRightGivenBy}
use Rattle.gtd_spans.specs.Merging.{AwaitsLeft, AwaitsRight, GivesLeft, GivesRight}
use Rattle.gtd_spans.specs.facts.Combining.{combine-normal}
use Rattle.gtd_spans.proofs.UnionSteps.{from-weaken, normal-begins, union-nil}
use Rattle.gtd_spans.proofs.MeetSteps.{meet-left, meet-right, meet-keeps, minus-keeps}
use Rattle.gtd_spans.proofs.MinusSteps.{give-left}

-- what an interval shares with one that contains it
inside-left : (x y : Interval) → y.from ≤ℤ x.from → x.until ≤ℤ y.until
    → (t : ℤ) → Holds (x ∷ []) t ↔ (Within x t × Within y t)
inside-left x y a b t = (
  (λ h. elim h [ inl w ↦ (w, (omega (arith, ints, a, w.0), omega (arith, ints, b, w.1))) | inr e ↦ absurd e ]),
  (λ k. inl k.0),
)

inside-right : (x y : Interval) → x.from ≤ℤ y.from → y.until ≤ℤ x.until
    → (t : ℤ) → Holds (y ∷ []) t ↔ (Within x t × Within y t)
inside-right x y a b t = (
  (λ h. elim h [ inl w ↦ ((omega (arith, ints, a, w.0), omega (arith, ints, b, w.1)), w) | inr e ↦ absurd e ]),
  (λ k. inl k.1),
)

-- the first interval on the left, by what is held of the right side
left-given : (op : Op) (side : Side) (x : Interval) (l r : List Interval) → IsLeftGivenBy op side x → IsNormal (x ∷ l)
    → IsNormal (side_list side r)
    → combine op (x ∷ l) (side_list side r) ≡ x ∷ combine op l (side_list side r)
left-given Union side x l r h n m = absurd h
left-given Meet Open x l r h n m = absurd h
left-given Meet (Held y) x l r h n m =
    meet-left x y l r (Some x) n m h.1 (inside-left x y h.0 h.1) (n.0, omega (arith, ints))
left-given Meet Ended x l r h n m = absurd h
left-given Minus Open x l r h n m = absurd h
left-given Minus (Held y) x l r h n m =
    give-left x l (y ∷ r) n (from-weaken y.from x.until (y ∷ r) h (normal-begins y r m))
left-given Minus Ended x l r h n m = give-left x l [] n tt

right-given : (op : Op) (side : Side) (y : Interval) (l r : List Interval) → IsRightGivenBy op side y
    → IsNormal (side_list side l) → IsNormal (y ∷ r)
    → combine op (side_list side l) (y ∷ r) ≡ y ∷ combine op (side_list side l) r
right-given Union side y l r h n m = absurd h
right-given Meet Open y l r h n m = absurd h
right-given Meet (Held x) y l r h n m =
    meet-right x y l r (Some y) n m h.1 (inside-right x y h.0 h.1) (m.0, omega (arith, ints))
right-given Meet Ended y l r h n m = absurd h
right-given Minus side y l r h n m = absurd h

-- an operator that gives an interval at once keeps nothing back
left-keeps : (op : Op) (side : Side) (x : Interval) (o : Option Interval) → IsLeftGivenBy op side x → OnlyUnionKeeps op o
    → o ≡ None
left-keeps Union side x o h k = absurd h
left-keeps Meet side x o h k = meet-keeps o k
left-keeps Minus side x o h k = minus-keeps o k

right-keeps : (op : Op) (side : Side) (x : Interval) (o : Option Interval) → IsRightGivenBy op side x → OnlyUnionKeeps op o
    → o ≡ None
right-keeps Union side x o h k = absurd h
right-keeps Meet side x o h k = meet-keeps o k
right-keeps Minus side x o h k = absurd h

pub gives-left : (s : Merge) (x : Interval) → IsLeftGivenBy s.op s.right x → AwaitsLeft s → GivesLeft s x
gives-left s x h await before after r taken f =
    let n : IsNormal (x ∷ after) = rw (await, taken) at f.left in
    let none : s.kept ≡ None = left-keeps s.op s.right x s.kept h f.keeps in (
      record { left = rw await n.2; right = f.right; kept = rw none tt; keeps = f.keeps },
      rw (
        none,
        await,
        taken,
        union-nil _ (combine-normal s.op (x ∷ after) (side_list s.right r)),
        union-nil _ (combine-normal s.op after (side_list s.right r)),
      ) (left-given s.op s.right x after r h n f.right),
    )

pub gives-right : (s : Merge) (y : Interval) → IsRightGivenBy s.op s.left y → AwaitsRight s → GivesRight s y
gives-right s y h await l before after taken f =
    let m : IsNormal (y ∷ after) = rw (await.1, taken) at f.right in
    let none : s.kept ≡ None = right-keeps s.op s.left y s.kept h f.keeps in (
      record { left = f.left; right = rw await.1 m.2; kept = rw none tt; keeps = f.keeps },
      rw (
        none,
        await.1,
        taken,
        union-nil _ (combine-normal s.op (side_list s.left l) (y ∷ after)),
        union-nil _ (combine-normal s.op (side_list s.left l) after),
      ) (right-given s.op s.left y l after h f.left m),
    )
