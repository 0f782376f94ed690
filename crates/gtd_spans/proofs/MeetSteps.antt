-- The steps of an intersection, and what they share with those of a difference.
use Rattle.std.proofs.Common.{◌≡◌, ◌⊎◌, ◌↔◌, List, [], ◌∷◌, refl, inl, inr, arith, Option, Some, None, IfSome, MatchOption}
use Rattle.std.proofs.Common.{Bool, true, false, is_le, int_cmp}
use Rattle.std.specs.Prelude.{ℤ, ◌≤ℤ◌, ◌<ℤ◌}
use Rattle.std.proofs.lemmas.Int.{ints}
use Rattle.std.proofs.lemmas.Grind.{common_steps}
use Rattle.gtd_core.specs.Seconds.{Interval, Within}
use Rattle.gtd_core.specs.declared.domain.Op.{Op}
use Rattle.gtd_core.specs.declared.domain.Op.TheVariants.{Meet, Minus}
use Rattle.gtd_spans.specs.declared.merge.Side.{Side}
use Rattle.gtd_spans.specs.declared.merge.Side.TheVariants.{Held}
use Rattle.gtd_spans.specs.declared.merge.Merge.{Merge}
use Rattle.gtd_spans.specs.Normal.{Holds, IsNormal, combine}
use Rattle.gtd_spans.specs.declared.merge.Ask.TheVariants.{End}
use Rattle.gtd_spans.specs.Merging.{listed, side_list, still, OnlyUnionKeeps, Fits, Steps}
use Rattle.gtd_spans.specs.facts.OneList.{after-holds, one-list}
use Rattle.gtd_spans.specs.facts.Combining.{combine-normal, combine-holds}
pub use Rattle.gtd_spans.specs.facts.Ended.{nothing-meet, meet-nothing, nothing-minus}
use Rattle.gtd_spans.proofs.UnionSteps.{first-off, union-nil, Handed}

-- a list before and after an interval of it was handed out, if one was
pub handed-by : (g : Option Interval) (old new : List Interval) → IsNormal old → IsNormal new
    → IfSome g (λ a. (a.from <ℤ a.until) × ((t : ℤ) → Holds new t → a.until <ℤ t))
    → ((t : ℤ) → Holds old t ↔ (Holds (listed g) t ⊎ Holds new t)) → Handed g old new
handed-by None old new n m gap same =
    one-list old new n m (λ t. ((λ h. elim ((same t).0 h) [ inl z ↦ absurd z | inr k ↦ k ]), (λ h. (same t).1 (inr h))))
handed-by (Some a) old new n m gap same = first-off a old new n m gap.0 gap.1
    (λ t. (
      (λ h. elim ((same t).0 h) [ inl z ↦ elim z [ inl w ↦ inl w | inr e ↦ absurd e ] | inr k ↦ inr k ]),
      (λ h. (same t).1 (elim h [ inl w ↦ inl (inl w) | inr k ↦ inr k ])),
    ))

pub meet-keeps : (o : Option Interval) → OnlyUnionKeeps Meet o → o ≡ None
meet-keeps None h = refl
meet-keeps (Some x) h = absurd h

pub minus-keeps : (o : Option Interval) → OnlyUnionKeeps Minus o → o ≡ None
minus-keeps None h = refl
minus-keeps (Some x) h = absurd h

abbrev pub moved : Merge → Side → Side → Merge
moved s a b = record { op = s.op; left = a; right = b; kept = s.kept }

-- a step of a merge that keeps nothing back
pub moved-on : (op : Op) (s : Merge) (a b : Side) (g : Option Interval) (l r : List Interval)
    → s.op ≡ op → s.kept ≡ None → Fits s l r → IsNormal (side_list a l) → IsNormal (side_list b r)
    → Handed g (combine op (side_list s.left l) (side_list s.right r)) (combine op (side_list a l) (side_list b r))
    → Fits (moved s a b) l r × Handed g (still s l r) (still (moved s a b) l r)
moved-on op s a b g l r e none f n m h = (
  record { left = n; right = m; kept = rw none tt; keeps = f.keeps },
  rw (
    none,
    e,
    union-nil _ (combine-normal op (side_list s.left l) (side_list s.right r)),
    union-nil _ (combine-normal op (side_list a l) (side_list b r)),
  ) h,
)

-- a merge that keeps nothing back, and whose operator leaves nothing, is at its end
pub nothing-more : (op : Op) (s : Merge) → s.op ≡ op → (OnlyUnionKeeps op s.kept → s.kept ≡ None)
    → ((l r : List Interval) → combine op (side_list s.left l) (side_list s.right r) ≡ []) → Steps s End s
nothing-more op s e keeps none = (
  (λ l r f. (f, refl)),
  (λ l r f. rw (keeps (rw e at f.keeps), e, none l r) (union-nil [] tt)),
)

-- what is handed out ends before the list that is left, if it ends with an interval that comes before that list
beyond : (x : Interval) (l left : List Interval) (g : Option Interval) → IsNormal (x ∷ l)
    → ((t : ℤ) → Holds left t → Holds l t) → IfSome g (λ m. (m.from <ℤ m.until) × (m.until ≤ℤ x.until))
    → IfSome g (λ a. (a.from <ℤ a.until) × ((t : ℤ) → Holds left t → a.until <ℤ t))
beyond x l left None n within e = tt
beyond x l left (Some a) n within e = (
  e.0,
  (λ t h.
      let q = after-holds x.until t l n.1 (within t h) in omega (arith, ints, e.1, q)),
)

-- of the two first intervals, the one that ends first goes, and their common part is handed out
pub meet-left : (x y : Interval) (l r : List Interval) (g : Option Interval) → IsNormal (x ∷ l) → IsNormal (y ∷ r)
    → x.until ≤ℤ y.until → ((t : ℤ) → Holds (listed g) t ↔ (Within x t × Within y t))
    → IfSome g (λ m. (m.from <ℤ m.until) × (m.until ≤ℤ x.until))
    → Handed g (combine Meet (x ∷ l) (y ∷ r)) (combine Meet l (y ∷ r))
meet-left x y l r g n m le both ends = handed-by g _ _ (combine-normal _ _ _) (combine-normal _ _ _)
    (beyond x l (combine Meet l (y ∷ r)) g n (λ t h. ((combine-holds Meet l (y ∷ r) t).0 h).0) ends)
    (λ t. let old = combine-holds Meet (x ∷ l) (y ∷ r) t in let new = combine-holds Meet l (y ∷ r) t in (
      (λ h. let k = old.0 h in elim k.0 [
        | inl w ↦ elim k.1 [
          | inl v ↦ inl ((both t).1 (w, v))
          | inr j ↦ absurd (let q = after-holds y.until t r m.1 j in omega (arith, ints, w.1, q))
        ]
        | inr j ↦ inr (new.1 (j, k.1))
      ]),
      (λ h. old.1 (elim h [
        | inl z ↦ let k = (both t).0 z in (inl k.0, inl k.1)
        | inr z ↦ let k = new.0 z in (inr k.0, k.1)
      ])),
    ))

pub meet-right : (x y : Interval) (l r : List Interval) (g : Option Interval) → IsNormal (x ∷ l) → IsNormal (y ∷ r)
    → y.until ≤ℤ x.until → ((t : ℤ) → Holds (listed g) t ↔ (Within x t × Within y t))
    → IfSome g (λ m. (m.from <ℤ m.until) × (m.until ≤ℤ y.until))
    → Handed g (combine Meet (x ∷ l) (y ∷ r)) (combine Meet (x ∷ l) r)
meet-right x y l r g n m le both ends = handed-by g _ _ (combine-normal _ _ _) (combine-normal _ _ _)
    (beyond y r (combine Meet (x ∷ l) r) g m (λ t h. ((combine-holds Meet (x ∷ l) r t).0 h).1) ends)
    (λ t. let old = combine-holds Meet (x ∷ l) (y ∷ r) t in let new = combine-holds Meet (x ∷ l) r t in (
      (λ h. let k = old.0 h in elim k.1 [
        | inl v ↦ elim k.0 [
          | inl w ↦ inl ((both t).1 (w, v))
          | inr j ↦ absurd (let q = after-holds x.until t l n.1 j in omega (arith, ints, v.1, q))
        ]
        | inr j ↦ inr (new.1 (k.0, j))
      ]),
      (λ h. old.1 (elim h [
        | inl z ↦ let k = (both t).0 z in (inl k.0, inl k.1)
        | inr z ↦ let k = new.0 z in (k.0, inr k.1)
      ])),
    ))

-- what `Span::meet` says, as a fact on lists
pub meet-listed : (x y : Interval) (g : Option Interval)
    → MatchOption g ((t : ℤ) → Within x t → Within y t → ⊥) (λ m. (t : ℤ) → Within m t ↔ (Within x t × Within y t))
    → (t : ℤ) → Holds (listed g) t ↔ (Within x t × Within y t)
meet-listed x y None h t = ((λ z. absurd z), (λ k. h t k.0 k.1))
meet-listed x y (Some m) h t = ((λ z. elim z [ inl w ↦ (h t).0 w | inr e ↦ absurd e ]), (λ k. inl ((h t).1 k)))

pub meet-ends : (x y : Interval) (g : Option Interval)
    → MatchOption g (Unit {0}) (λ m. (m.from <ℤ m.until) × (m.until ≤ℤ x.until) × (m.until ≤ℤ y.until))
    → IfSome g (λ m. (m.from <ℤ m.until) × (m.until ≤ℤ x.until)) × IfSome g (λ m. (m.from <ℤ m.until) × (m.until ≤ℤ y.until))
meet-ends x y None h = (tt, tt)
meet-ends x y (Some m) h = ((h.0, h.1), (h.0, h.2))

-- a step that takes from the two intervals held, by what it does to lists
pub step-by : (op : Op) (s : Merge) (x y : Interval) (a b : Side) (g : Option Interval)
    → s.op ≡ op → (OnlyUnionKeeps op s.kept → s.kept ≡ None) → s.left ≡ Held x → s.right ≡ Held y
    → ((l r : List Interval) → IsNormal (x ∷ l) → IsNormal (y ∷ r)
    → IsNormal (side_list a l) × IsNormal (side_list b r)
    × Handed g (combine op (x ∷ l) (y ∷ r)) (combine op (side_list a l) (side_list b r)))
    → (l r : List Interval) → Fits s l r → Fits (moved s a b) l r × Handed g (still s l r) (still (moved s a b) l r)
step-by op s x y a b g e none hl hr by l r f =
    let n : IsNormal (x ∷ l) = rw hl at f.left in
    let m : IsNormal (y ∷ r) = rw hr at f.right in
    let k : OnlyUnionKeeps op s.kept = rw e at f.keeps in
    let z = by l r n m in
    moved-on op s a b g l r e (none k) f z.0 z.1 (rw (hl, hr) z.2)

-- what a comparison of two seconds has told
pub le-told : (a b x y : ℤ) (r : Bool) → r ≡ is_le (int_cmp a b) → r ≡ true → a ≡ x → b ≡ y → x ≤ℤ y
le-told a b x y r is t e f = grind (arith, ints, common_steps)

pub gt-told : (a b x y : ℤ) (r : Bool) → r ≡ is_le (int_cmp a b) → r ≡ false → a ≡ x → b ≡ y → y ≤ℤ x
gt-told a b x y r is t e f = grind (arith, ints, common_steps)
