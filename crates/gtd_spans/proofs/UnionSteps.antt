-- The steps of a union: what is joined, kept back and handed out.
use Rattle.std.proofs.Common.{◌≡◌, ◌⊎◌, ◌↔◌, List, [], ◌∷◌, refl, subst, inl, inr, arith, Option, Some, None, IfSome}
use Rattle.std.specs.Prelude.{ℤ, ◌≤ℤ◌, ◌<ℤ◌}
use Rattle.std.proofs.lemmas.Int.{ints}
use Rattle.gtd_core.specs.Seconds.{Interval, Within}
use Rattle.gtd_core.specs.declared.domain.Op.TheVariants.{Union}
use Rattle.gtd_spans.specs.declared.merge.Side.{Side}
use Rattle.gtd_spans.specs.declared.merge.Side.TheVariants.{Open, Held, Ended}
use Rattle.gtd_spans.specs.declared.merge.Merge.{Merge}
use Rattle.gtd_spans.specs.Normal.{Holds, IsNormal, combine}
use Rattle.gtd_spans.specs.Merging.{listed, side_list, still, AllBeginFrom, KeptFits, Fits}
use Rattle.gtd_spans.specs.facts.OneList.{one-list}
pub use Rattle.gtd_spans.specs.Merging.{Handed}
pub use Rattle.gtd_spans.specs.facts.Orders.{after-from-holds, from-after, from-weaken, from-holds, normal-begins}
use Rattle.gtd_spans.specs.facts.Combining.{combine-normal, combine-holds}

-- an interval, and a normal list that lies beyond it, are together a normal list
pub first-off : (x : Interval) (xs ys : List Interval) → IsNormal xs → IsNormal ys → x.from <ℤ x.until
    → ((t : ℤ) → Holds ys t → x.until <ℤ t)
    → ((t : ℤ) → Holds xs t ↔ (Within x t ⊎ Holds ys t)) → xs ≡ x ∷ ys
first-off x xs ys n m lt beyond same = one-list xs (x ∷ ys) n (lt, after-from-holds x.until ys m beyond, m) same

union3-holds : (xs ys zs : List Interval) (t : ℤ)
    → Holds (combine Union xs (combine Union ys zs)) t ↔ (Holds xs t ⊎ (Holds ys t ⊎ Holds zs t))
union3-holds xs ys zs t =
    let outer = combine-holds Union xs (combine Union ys zs) t in
    let inner = combine-holds Union ys zs t in (
      (λ h. elim (outer.0 h) [ inl a ↦ inl a | inr b ↦ inr (inner.0 b) ]),
      (λ h. outer.1 (elim h [ inl a ↦ inl a | inr b ↦ inr (inner.1 b) ])),
    )

-- where x was joined to what was kept back, the new list holds what the old one held and was not handed out
moved : (o g : Option Interval) (x kept : Interval) (ls rs old : List Interval)
    → ((t : ℤ) → Holds old t ↔ ((Holds (listed o) t ⊎ Within x t) ⊎ (Holds ls t ⊎ Holds rs t)))
    → ((t : ℤ) → (Holds (listed o) t ⊎ Within x t) ↔ (Holds (listed g) t ⊎ Within kept t))
    → (t : ℤ) → Holds old t ↔ (Holds (listed g) t ⊎ Holds (combine Union (kept ∷ []) (combine Union ls rs)) t)
moved o g x kept ls rs old is joins t =
    let u = union3-holds (kept ∷ []) ls rs t in (
      (λ h. elim ((is t).0 h) [
        | inl a ↦ elim ((joins t).0 a) [ inl b ↦ inl b | inr w ↦ inr (u.1 (inl (inl w))) ]
        | inr a ↦ inr (u.1 (inr a))
      ]),
      (λ h. (is t).1 (elim h [
        | inl b ↦ inl ((joins t).1 (inl b))
        | inr a ↦ elim (u.0 a) [
          | inl k ↦ elim k [ inl w ↦ inl ((joins t).1 (inr w)) | inr z ↦ absurd z ]
          | inr r ↦ inr r
        ]
      ])),
    )

-- what the old list holds, where x comes off the left side; where it comes off the right side
old-left : (o : Option Interval) (x : Interval) (ls rs : List Interval) (t : ℤ)
    → Holds (combine Union (listed o) (combine Union (x ∷ ls) rs)) t
    ↔ ((Holds (listed o) t ⊎ Within x t) ⊎ (Holds ls t ⊎ Holds rs t))
old-left o x ls rs t = let u = union3-holds (listed o) (x ∷ ls) rs t in (
  (λ h. elim (u.0 h) [
    | inl a ↦ inl (inl a)
    | inr b ↦ elim b [ inl k ↦ elim k [ inl w ↦ inl (inr w) | inr z ↦ inr (inl z) ] | inr z ↦ inr (inr z) ]
  ]),
  (λ h. u.1 (elim h [
    | inl a ↦ elim a [ inl b ↦ inl b | inr w ↦ inr (inl (inl w)) ]
    | inr b ↦ elim b [ inl z ↦ inr (inl (inr z)) | inr z ↦ inr (inr z) ]
  ])),
)

old-right : (o : Option Interval) (x : Interval) (ls rs : List Interval) (t : ℤ)
    → Holds (combine Union (listed o) (combine Union ls (x ∷ rs))) t
    ↔ ((Holds (listed o) t ⊎ Within x t) ⊎ (Holds ls t ⊎ Holds rs t))
old-right o x ls rs t = let u = union3-holds (listed o) ls (x ∷ rs) t in (
  (λ h. elim (u.0 h) [
    | inl a ↦ inl (inl a)
    | inr b ↦ elim b [ inl z ↦ inr (inl z) | inr k ↦ elim k [ inl w ↦ inl (inr w) | inr z ↦ inr (inr z) ] ]
  ]),
  (λ h. u.1 (elim h [
    | inl a ↦ elim a [ inl b ↦ inl b | inr w ↦ inr (inr (inl w)) ]
    | inr b ↦ elim b [ inl z ↦ inr (inl z) | inr z ↦ inr (inr (inr z)) ]
  ])),
)

handed : (g : Option Interval) (kept : Interval) (ls rs old : List Interval) → IsNormal old
    → IfSome g (λ a. (a.from <ℤ a.until) × (a.until <ℤ kept.from)) → AllBeginFrom kept.from ls → AllBeginFrom kept.from rs
    → ((t : ℤ) → Holds old t ↔ (Holds (listed g) t ⊎ Holds (combine Union (kept ∷ []) (combine Union ls rs)) t))
    → Handed g old (combine Union (kept ∷ []) (combine Union ls rs))
handed None kept ls rs old n gap fa fb same =
    one-list _ _ n (combine-normal _ _ _)
    (λ t. ((λ h. elim ((same t).0 h) [ inl z ↦ absurd z | inr k ↦ k ]), (λ h. (same t).1 (inr h))))
handed (Some g) kept ls rs old n gap fa fb same =
    first-off g old _ n (combine-normal _ _ _) gap.0
    (λ t h. elim ((union3-holds (kept ∷ []) ls rs t).0 h) [
      | inl k ↦ elim k [ inl w ↦ omega (arith, ints, gap.1, w.0) | inr z ↦ absurd z ]
      | inr r ↦ elim r [
        | inl a ↦ let q = from-holds kept.from t ls fa a in omega (arith, ints, gap.1, q)
        | inr b ↦ let q = from-holds kept.from t rs fb b in omega (arith, ints, gap.1, q)
      ]
    ])
    (λ t. (
      (λ h. elim ((same t).0 h) [ inl z ↦ elim z [ inl w ↦ inl w | inr e ↦ absurd e ] | inr k ↦ inr k ]),
      (λ h. (same t).1 (elim h [ inl w ↦ inl (inl w) | inr k ↦ inr k ])),
    ))

-- what is kept back does not begin after the next interval of a side
kept-left : (o : Option Interval) (x : Interval) (ls rs : List Interval) → KeptFits o (x ∷ ls) rs
    → IfSome o (λ k. k.from ≤ℤ x.from)
kept-left None x ls rs k = tt
kept-left (Some o) x ls rs k = k.1.0

kept-right : (o : Option Interval) (x : Interval) (ls rs : List Interval) → KeptFits o ls (x ∷ rs)
    → IfSome o (λ k. k.from ≤ℤ x.from)
kept-right None x ls rs k = tt
kept-right (Some o) x ls rs k = k.2.0

-- what `joined` promises of the interval that it keeps back
abbrev pub IsJoined : Option Interval → Interval → Option Interval → Interval → Type 0
IsJoined o x g kept =
    (IfSome o (λ k. k.from ≤ℤ x.from) → (t : ℤ) → (Holds (listed o) t ⊎ Within x t) ↔ (Holds (listed g) t ⊎ Within kept t))
    × IfSome g (λ a. (a.from <ℤ a.until) × (a.until <ℤ kept.from))
    × (IfSome o (λ k. k.from ≤ℤ x.from) → kept.from ≤ℤ x.from)
    × (kept.from <ℤ kept.until)

abbrev left_taken : Merge → Interval → Merge
left_taken s kept = record { op = s.op; left = Open; right = s.right; kept = Some kept }

abbrev right_taken : Merge → Interval → Merge
right_taken s kept = record { op = s.op; left = s.left; right = Open; kept = Some kept }

pub handed-as : (g h : Option Interval) (old new : List Interval) → g ≡ h → Handed g old new → Handed h old new
handed-as g h old new e k = let P : Option Interval → Type 0 = λ o. Handed o old new in subst P e k

module _ (s : Merge) (x : Interval) (g : Option Interval) (kept : Interval) (h : Option Interval) (is : g ≡ h)
    (op : s.op ≡ Union) (joins : IsJoined s.kept x g kept) where
  pub took-left : s.left ≡ Held x → ((l r : List Interval) → Fits s l r → AllBeginFrom x.from (side_list s.right r))
      → (l r : List Interval) → Fits s l r
      → Fits (left_taken s kept) l r × Handed h (still s l r) (still (left_taken s kept) l r)
  took-left held first l r f =
      let n : IsNormal (x ∷ l) = rw held at f.left in
      let k : KeptFits s.kept (x ∷ l) (side_list s.right r) = rw held at f.kept in
      let begins : IfSome s.kept (λ k. k.from ≤ℤ x.from) = kept-left s.kept x l _ k in
      let le : kept.from ≤ℤ x.from = joins.2 begins in
      let fl : AllBeginFrom kept.from l = from-weaken x.from kept.from l le (normal-begins x l n).1 in
      let fr : AllBeginFrom kept.from (side_list s.right r) = from-weaken x.from kept.from _ le (first l r f) in (
        record { left = n.2; right = f.right; kept = (joins.3, fl, fr); keeps = rw op tt },
        handed-as g h _ _ is (rw (op, held) (handed g kept l (side_list s.right r) _ (combine-normal _ _ _) joins.1 fl fr
            (moved s.kept g x kept l (side_list s.right r) _ (old-left s.kept x l (side_list s.right r)) (joins.0 begins)))),
      )

  pub took-right : s.right ≡ Held x → ((l r : List Interval) → Fits s l r → AllBeginFrom x.from (side_list s.left l))
      → (l r : List Interval) → Fits s l r
      → Fits (right_taken s kept) l r × Handed h (still s l r) (still (right_taken s kept) l r)
  took-right held first l r f =
      let n : IsNormal (x ∷ r) = rw held at f.right in
      let k : KeptFits s.kept (side_list s.left l) (x ∷ r) = rw held at f.kept in
      let begins : IfSome s.kept (λ k. k.from ≤ℤ x.from) = kept-right s.kept x _ r k in
      let le : kept.from ≤ℤ x.from = joins.2 begins in
      let fr : AllBeginFrom kept.from r = from-weaken x.from kept.from r le (normal-begins x r n).1 in
      let fl : AllBeginFrom kept.from (side_list s.left l) = from-weaken x.from kept.from _ le (first l r f) in (
        record { left = f.left; right = n.2; kept = (joins.3, fl, fr); keeps = rw op tt },
        handed-as g h _ _ is (rw (op, held) (handed g kept (side_list s.left l) r _ (combine-normal _ _ _) joins.1 fl fr
            (moved s.kept g x kept (side_list s.left l) r _ (old-right s.kept x (side_list s.left l) r) (joins.0 begins)))),
      )

abbrev kept_taken : Merge → Merge
kept_taken s = record { op = s.op; left = s.left; right = s.right; kept = None }

nothing-left : combine Union [] (combine Union [] []) ≡ []
nothing-left = one-list _ [] (combine-normal _ _ _) tt
    (λ t. ((λ h. elim ((union3-holds [] [] [] t).0 h) [ inl z ↦ z | inr z ↦ elim z [ inl y ↦ y | inr y ↦ y ] ]), (λ h. absurd h)))

handed-kept : (o : Option Interval) → KeptFits o [] []
    → Handed o (combine Union (listed o) (combine Union [] [])) (combine Union [] (combine Union [] []))
handed-kept None k = refl
handed-kept (Some x) k = rw nothing-left (first-off x _ [] (combine-normal _ _ _) tt k.0 (λ t h. absurd h)
    (λ t. let u = union3-holds (x ∷ []) [] [] t in
    ((λ h. elim (u.0 h) [ inl z ↦ z | inr z ↦ absurd (elim z [ inl y ↦ y | inr y ↦ y ]) ]), (λ h. u.1 (inl h)))))

-- both sides have ended
pub took-kept : (s : Merge) → s.op ≡ Union → s.left ≡ Ended → s.right ≡ Ended
    → (l r : List Interval) → Fits s l r
    → Fits (kept_taken s) l r × Handed s.kept (still s l r) (still (kept_taken s) l r) × (still (kept_taken s) l r ≡ [])
took-kept s op el er l r f =
    let k : KeptFits s.kept [] [] = rw (el, er) at f.kept in (
      record { left = f.left; right = f.right; kept = tt; keeps = rw op tt },
      rw (op, el, er) (handed-kept s.kept k),
      rw (op, el, er) nothing-left,
    )

-- a side begins no earlier than the interval that it holds
pub side-begins : (b : ℤ) (side : Side) (y : Interval) (l : List Interval) → side ≡ Held y → b ≤ℤ y.from
    → IsNormal (side_list side l) → AllBeginFrom b (side_list side l)
side-begins b side y l e le n =
    let m : IsNormal (y ∷ l) = rw e at n in
    rw e (from-weaken y.from b (y ∷ l) le (normal-begins y l m))

-- the union with no seconds
pub union-nil : (xs : List Interval) → IsNormal xs → combine Union [] xs ≡ xs
union-nil xs n = one-list _ xs (combine-normal _ _ _) n (λ t. let u = combine-holds Union [] xs t in
    ((λ h. elim (u.0 h) [ inl z ↦ absurd z | inr k ↦ k ]), (λ h. u.1 (inr h))))
