-- Spans of one side that end before the other begins make no difference to what both share, nor to what is taken away.
use Rattle.std.proofs.Common.{◌≡◌, ◌↔◌, List, [], ◌∷◌, ◌++◌, inl, inr, refl, arith, Option, Some, None}
use Rattle.std.specs.Prelude.{ℤ, ◌≤ℤ◌, ◌<ℤ◌}
use Rattle.std.proofs.lemmas.Int.{ints}
use Rattle.gtd_core.specs.Seconds.{Interval}
use Rattle.gtd_core.specs.declared.domain.Op.TheVariants.{Union, Meet, Minus}
use Rattle.gtd_spans.specs.Normal.{Holds, IsNormal, combine, AllBeginFrom}
use Rattle.gtd_spans.specs.Merging.{side_list, still, Fits, OnlyUnionKeeps, KeptFits}
use Rattle.gtd_spans.specs.Skipping.{AllEndBy, LeavesOut, MergeNeedsLeftFrom, MergeNeedsRightFrom}
use Rattle.gtd_spans.specs.declared.merge.Side.TheVariants.{Open, Held}
use Rattle.gtd_spans.specs.declared.merge.Merge.{Merge}
use Rattle.gtd_spans.specs.facts.Combining.{combine-normal, combine-holds}
use Rattle.gtd_spans.specs.facts.OneList.{one-list}
use Rattle.gtd_spans.specs.facts.Orders.{from-holds, normal-begins}
use Rattle.gtd_spans.proofs.Pushed.{holds-append}

ends-before : (b t : ℤ) (first : List Interval) → AllEndBy b first → Holds first t → t <ℤ b
ends-before b t (x ∷ first) e (inl w) = omega (arith, ints, w.1, e.0)
ends-before b t (x ∷ first) e (inr h) = ends-before b t first e.1 h
ends-before b t [] e h = absurd h

pub normal-rest : (first xs : List Interval) → IsNormal (first ++ xs) → IsNormal xs
normal-rest [] xs n = n
normal-rest (x ∷ first) xs n = normal-rest first xs n.2

-- what is held from a second on is held by what is left
from-rest : (b t : ℤ) (first xs : List Interval) → AllEndBy b first → b ≤ℤ t → Holds (first ++ xs) t → Holds xs t
from-rest b t first xs e le h =
    elim ((holds-append first xs t).0 h) [
      | inl k ↦ absurd (let lt = ends-before b t first e k in omega (arith, ints, lt, le))
      | inr k ↦ k
    ]

pub meet-rest : (b : ℤ) (first xs ys : List Interval) → AllEndBy b first → AllBeginFrom b ys
    → combine Meet (first ++ xs) ys ≡ combine Meet xs ys
meet-rest b first xs ys e begin =
    one-list _ _ (combine-normal Meet (first ++ xs) ys) (combine-normal Meet xs ys) (λ t.
    let all = combine-holds Meet (first ++ xs) ys t in
    let rest = combine-holds Meet xs ys t in (
      (λ h. let k = all.0 h in rest.1 (from-rest b t first xs e (from-holds b t ys begin k.1) k.0, k.1)),
      (λ h. let k = rest.0 h in all.1 ((holds-append first xs t).1 (inr k.0), k.1)),
    ))

pub meet-rest-right : (b : ℤ) (first xs ys : List Interval) → AllEndBy b first → AllBeginFrom b ys
    → combine Meet ys (first ++ xs) ≡ combine Meet ys xs
meet-rest-right b first xs ys e begin =
    one-list _ _ (combine-normal Meet ys (first ++ xs)) (combine-normal Meet ys xs) (λ t.
    let all = combine-holds Meet ys (first ++ xs) t in
    let rest = combine-holds Meet ys xs t in (
      (λ h. let k = all.0 h in rest.1 (k.0, from-rest b t first xs e (from-holds b t ys begin k.0) k.1)),
      (λ h. let k = rest.0 h in all.1 (k.0, (holds-append first xs t).1 (inr k.1))),
    ))

pub minus-rest : (b : ℤ) (first xs ys : List Interval) → AllEndBy b first → AllBeginFrom b ys
    → combine Minus ys (first ++ xs) ≡ combine Minus ys xs
minus-rest b first xs ys e begin =
    one-list _ _ (combine-normal Minus ys (first ++ xs)) (combine-normal Minus ys xs) (λ t.
    let all = combine-holds Minus ys (first ++ xs) t in
    let rest = combine-holds Minus ys xs t in (
      (λ h. let k = all.0 h in rest.1 (k.0, λ m. k.1 ((holds-append first xs t).1 (inr m)))),
      (λ h. let k = rest.0 h in all.1 (k.0, λ m. k.1 (from-rest b t first xs e (from-holds b t ys begin k.0) m))),
    ))

-- a merge that keeps nothing back and has its left side open
pub left-needed : (s : Merge) (y : Interval) → s.op ≡ Meet → s.left ≡ Open → s.right ≡ Held y → MergeNeedsLeftFrom s y.from
left-needed s y op left right before after r (first, is, ends) fits =
    let kept : OnlyUnionKeeps Meet s.kept = rw op at fits.keeps in
    let normal : IsNormal (first ++ after) = rw (left, is) at fits.left in
    let held : IsNormal (y ∷ r) = rw right at fits.right in
    let same = meet-rest y.from first after (y ∷ r) ends (normal-begins y r held) in (
      record {
        left = rw left (normal-rest first after normal);
        right = fits.right;
        kept = none-fits s.kept kept _ _;
        keeps = fits.keeps;
      },
      rw (op, left, right, is, same) refl,
    )
  where
    none-fits : (o : Option Interval) → OnlyUnionKeeps Meet o → (l r : List Interval) → KeptFits o l r
    none-fits None k l r = tt
    none-fits (Some x) k l r = absurd k

pub right-needed-meet : (s : Merge) (x : Interval) → s.op ≡ Meet → s.left ≡ Held x → s.right ≡ Open
    → MergeNeedsRightFrom s x.from
right-needed-meet s x op left right l before after (first, is, ends) fits =
    let kept : OnlyUnionKeeps Meet s.kept = rw op at fits.keeps in
    let normal : IsNormal (first ++ after) = rw (right, is) at fits.right in
    let held : IsNormal (x ∷ l) = rw left at fits.left in
    let same = meet-rest-right x.from first after (x ∷ l) ends (normal-begins x l held) in (
      record {
        left = fits.left;
        right = rw right (normal-rest first after normal);
        kept = none-fits s.kept kept _ _;
        keeps = fits.keeps;
      },
      rw (op, left, right, is, same) refl,
    )
  where
    none-fits : (o : Option Interval) → OnlyUnionKeeps Meet o → (l r : List Interval) → KeptFits o l r
    none-fits None k l r = tt
    none-fits (Some x) k l r = absurd k

pub right-needed-minus : (s : Merge) (x : Interval) → s.op ≡ Minus → s.left ≡ Held x → s.right ≡ Open
    → MergeNeedsRightFrom s x.from
right-needed-minus s x op left right l before after (first, is, ends) fits =
    let kept : OnlyUnionKeeps Minus s.kept = rw op at fits.keeps in
    let normal : IsNormal (first ++ after) = rw (right, is) at fits.right in
    let held : IsNormal (x ∷ l) = rw left at fits.left in
    let same = minus-rest x.from first after (x ∷ l) ends (normal-begins x l held) in (
      record {
        left = fits.left;
        right = rw right (normal-rest first after normal);
        kept = none-fits s.kept kept _ _;
        keeps = fits.keeps;
      },
      rw (op, left, right, is, same) refl,
    )
  where
    none-fits : (o : Option Interval) → OnlyUnionKeeps Minus o → (l r : List Interval) → KeptFits o l r
    none-fits None k l r = tt
    none-fits (Some x) k l r = absurd k
