-- The steps of a difference.
use Rattle.std.proofs.Common.{◌≡◌, ◌∙◌, ap, sym, ◌⊎◌, List, [], ◌∷◌, inl, inr, arith, Option, Some, None, IfSome}
use Rattle.std.specs.Prelude.{ℤ, ◌≤ℤ◌, ◌<ℤ◌}
use Rattle.std.proofs.lemmas.Int.{ints, by_lt_z}
use Rattle.gtd_core.specs.Seconds.{Interval}
use Rattle.gtd_core.specs.declared.domain.Op.TheVariants.{Minus}
use Rattle.gtd_spans.specs.Normal.{Holds, IsNormal, combine}
use Rattle.gtd_spans.specs.declared.merge.Merge.{Merge}
use Rattle.gtd_spans.specs.declared.merge.Side.{Side}
use Rattle.gtd_spans.specs.declared.merge.Side.TheVariants.{Open, Held, Ended}
use Rattle.gtd_spans.specs.Merging.{listed, side_list, still, AllBeginFrom, TakesOff}
use Rattle.gtd_spans.specs.facts.OneList.{after-holds, first-holds}
use Rattle.gtd_spans.specs.facts.Combining.{combine-normal, combine-holds}
use Rattle.gtd_spans.proofs.UnionSteps.{Handed, from-holds, union-nil}
use Rattle.gtd_spans.proofs.MeetSteps.{handed-by, minus-keeps, nothing-minus}

gap-of : (g : Option Interval) (ms qs : List Interval)
    → IfSome g (λ a. (a.from <ℤ a.until) × ((t : ℤ) → Holds ms t → (Holds qs t → ⊥) → a.until <ℤ t))
    → IfSome g (λ a. (a.from <ℤ a.until) × ((t : ℤ) → Holds (combine Minus ms qs) t → a.until <ℤ t))
gap-of None ms qs h = tt
gap-of (Some a) ms qs h = (h.0, (λ t k. let z = (combine-holds Minus ms qs t).0 k in h.1 t z.0 z.1))

minus-by : (g : Option Interval) (ls rs ms qs : List Interval)
    → IfSome g (λ a. (a.from <ℤ a.until) × ((t : ℤ) → Holds ms t → (Holds qs t → ⊥) → a.until <ℤ t))
    → ((t : ℤ) → Holds ls t → (Holds rs t → ⊥) → Holds (listed g) t ⊎ (Holds ms t × (Holds qs t → ⊥)))
    → ((t : ℤ) → Holds (listed g) t → Holds ls t × (Holds rs t → ⊥))
    → ((t : ℤ) → Holds ms t → (Holds qs t → ⊥) → Holds ls t × (Holds rs t → ⊥))
    → Handed g (combine Minus ls rs) (combine Minus ms qs)
minus-by g ls rs ms qs gap out in1 in2 = handed-by g _ _ (combine-normal _ _ _) (combine-normal _ _ _)
    (gap-of g ms qs gap)
    (λ t. let old = combine-holds Minus ls rs t in let new = combine-holds Minus ms qs t in (
      (λ h. let k = old.0 h in elim (out t k.0 k.1) [ inl z ↦ inl z | inr z ↦ inr (new.1 z) ]),
      (λ h. old.1 (elim h [ inl z ↦ in1 t z | inr z ↦ let k = new.0 z in in2 t k.0 k.1 ])),
    ))

-- the first interval on the right ends before the left side begins
pub drop-right : (x y : Interval) (l r : List Interval) → IsNormal (x ∷ l) → y.until ≤ℤ x.from
    → Handed None (combine Minus (x ∷ l) (y ∷ r)) (combine Minus (x ∷ l) r)
drop-right x y l r n le = minus-by None (x ∷ l) (y ∷ r) (x ∷ l) r tt
    (λ t a b. inr (a, (λ k. b (inr k))))
    (λ t z. absurd z)
    (λ t a b. (a, (λ k. elim k [ inl w ↦ (let q = first-holds x l t n a in omega (arith, ints, w.1, q)) | inr j ↦ b j ])))

-- the right side begins after the first interval on the left
pub give-left : (x : Interval) (l rs : List Interval) → IsNormal (x ∷ l) → AllBeginFrom x.until rs
    → Handed (Some x) (combine Minus (x ∷ l) rs) (combine Minus l rs)
give-left x l rs n a = minus-by (Some x) (x ∷ l) rs l rs
    (n.0, (λ t h k. after-holds x.until t l n.1 h))
    (λ t h k. elim h [ inl w ↦ inl (inl w) | inr j ↦ inr (j, k) ])
    (λ t z. elim z [
      | inl w ↦ (inl w, (λ k. let q = from-holds x.until t rs a k in omega (arith, ints, w.1, q)))
      | inr e ↦
          absurd e
    ])
    (λ t h k. (inr h, k))

-- the part of the first interval on the left that is before the first one on the right
pub give-part : (x y : Interval) (l r : List Interval) → IsNormal (x ∷ l) → IsNormal (y ∷ r) → x.from <ℤ y.from → y.from
    <ℤ x.until
    → Handed (Some (record { from = x.from; until = y.from })) (combine Minus (x ∷ l) (y ∷ r))
    (combine Minus (record { from = y.from; until = x.until } ∷ l) (y ∷ r))
give-part x y l r n m lt lu = minus-by (Some (record { from = x.from; until = y.from })) (x ∷ l) (y ∷ r)
    (record { from = y.from; until = x.until } ∷ l) (y ∷ r) (
      lt,
      (λ t h k. by_lt_z y.from t (λ s. s) (λ ge. absurd (elim h [
        | inl w ↦ k (inl (w.0, omega (arith, ints, m.0, w.0)))
        | inr j ↦ let q = after-holds x.until t l n.1 j in omega (arith, ints, q)
      ]))),
    )
    (λ t h k. elim h [
      | inl w ↦ by_lt_z t y.from (λ s. inl (inl (w.0, s))) (λ s. inr (inl (s, w.1), k))
      | inr j ↦ inr (inr j, k)
    ])
    (λ t z. elim z [
      | inl w ↦ (inl (w.0, omega (arith, ints, w.1)), (λ k. let q = first-holds y r t m k in omega (arith, ints, w.1, q)))
      | inr e ↦ absurd e
    ])
    (λ t h k. (elim h [ inl w ↦ inl (omega (arith, ints, w.0), w.1) | inr j ↦ inr j ], k))

-- the first interval on the right covers the front of the first one on the left, and goes
pub trim-left : (x y : Interval) (l r : List Interval) → IsNormal (x ∷ l) → IsNormal (y ∷ r) → y.from ≤ℤ x.from → x.from
    <ℤ y.until → y.until <ℤ x.until
    → Handed None (combine Minus (x ∷ l) (y ∷ r)) (combine Minus (record { from = y.until; until = x.until } ∷ l) r)
trim-left x y l r n m le lt lu = minus-by None (x ∷ l) (y ∷ r) (record { from = y.until; until = x.until } ∷ l) r tt
    (λ t h k. inr (
      elim h [
        | inl w ↦ by_lt_z t y.until (λ s. absurd (k (inl (omega (arith, ints, w.0), s)))) (λ s. inl (s, w.1))
        | inr j ↦ inr j
      ],
      (λ j. k (inr j)),
    ))
    (λ t z. absurd z)
    (λ t h k. (
      elim h [ inl w ↦ inl (omega (arith, ints, w.0), w.1) | inr j ↦ inr j ],
      (λ j. elim j [
        | inl v ↦ elim h [
          | inl w ↦ omega (arith, ints, v.1, w.0)
          | inr i ↦ let q = after-holds x.until t l n.1 i in omega (arith, ints, v.1, q)
        ]
        | inr i ↦ k i
      ]),
    ))

-- the first interval on the right covers the first one on the left
pub drop-left : (x y : Interval) (l r : List Interval) → IsNormal (x ∷ l) → IsNormal (y ∷ r) → y.from ≤ℤ x.from → x.until
    ≤ℤ y.until
    → Handed None (combine Minus (x ∷ l) (y ∷ r)) (combine Minus l (y ∷ r))
drop-left x y l r n m le lu = minus-by None (x ∷ l) (y ∷ r) l (y ∷ r) tt
    (λ t h k. elim h [
      | inl w ↦ absurd (k (inl (omega (arith, ints, w.0), omega (arith, ints, w.1))))
      | inr j ↦ inr (j, k)
    ])
    (λ t z. absurd z)
    (λ t h k. (inr h, k))

-- the part before the first interval on the right, which goes: what is behind it is left
pub give-trim : (x y : Interval) (l r : List Interval) → IsNormal (x ∷ l) → IsNormal (y ∷ r) → x.from <ℤ y.from → y.until
    <ℤ x.until
    → Handed (Some (record { from = x.from; until = y.from })) (combine Minus (x ∷ l) (y ∷ r))
    (combine Minus (record { from = y.until; until = x.until } ∷ l) r)
give-trim x y l r n m lt lu =
    let some = m.0 in
    let within : y.from <ℤ x.until = omega (arith, ints, some, lu) in
    let part : Interval = record { from = x.from; until = y.from } in
    let rest : Interval = record { from = y.from; until = x.until } in
    let begun : y.from ≤ℤ y.from = omega (arith, ints) in
    give-part x y l r n m lt within ∙ ap (λ (t : List Interval). part ∷ t)
    (trim-left rest y l r (within, n.1, n.2) m begun some lu)

-- the part before the first interval on the right, which covers what is behind it
pub give-drop : (x y : Interval) (l r : List Interval) → IsNormal (x ∷ l) → IsNormal (y ∷ r) → x.from <ℤ y.from → y.from
    <ℤ x.until → x.until ≤ℤ y.until
    → Handed (Some (record { from = x.from; until = y.from })) (combine Minus (x ∷ l) (y ∷ r)) (combine Minus l (y ∷ r))
give-drop x y l r n m lt within lu =
    let part : Interval = record { from = x.from; until = y.from } in
    let rest : Interval = record { from = y.from; until = x.until } in
    let begun : y.from ≤ℤ y.from = omega (arith, ints) in
    give-part x y l r n m lt within ∙ ap (λ (t : List Interval). part ∷ t) (drop-left rest y l r (within, n.1, n.2) m begun lu)

-- the first interval was taken off the right side, where the left side has one interval and no more
pub taken-off : (s : Merge) (x y : Interval) (a : Side) (g : Option Interval) → s.op ≡ Minus → s.left ≡ Held x → s.right ≡ Open
    → ((after : List Interval) → IsNormal (x ∷ []) → IsNormal (y ∷ after)
    → IsNormal (side_list a []) × Handed g (combine Minus (x ∷ []) (y ∷ after)) (combine Minus (side_list a []) after))
    → TakesOff s y g (record { op = s.op; left = a; right = s.right; kept = s.kept })
taken-off s x y a g op left right by after f =
    let n : IsNormal (x ∷ []) = rw left at f.left in
    let m : IsNormal (y ∷ after) = rw right at f.right in
    let none : s.kept ≡ None = minus-keeps s.kept (rw op at f.keeps) in
    let one = by after n m in (
      record { left = one.0; right = rw right m.2; kept = rw none tt; keeps = f.keeps },
      rw (
        none,
        op,
        left,
        right,
        union-nil _ (combine-normal Minus (x ∷ []) (y ∷ after)),
        union-nil _ (combine-normal Minus (side_list a []) after),
      ) one.1,
    )

-- what comes first on the right side makes no difference to nothing
pub nothing-less : (y : Interval) (r : List Interval) → combine Minus [] (y ∷ r) ≡ combine Minus [] r
nothing-less y r = nothing-minus (y ∷ r) ∙ sym (nothing-minus r)

pub one-and-nothing-less : (x y : Interval) (r : List Interval) → x ∷ combine Minus [] (y ∷ r) ≡ x ∷ combine Minus [] r
one-and-nothing-less x y r = ap (λ (t : List Interval). x ∷ t) (nothing-less y r)

-- the same, where the left side has nothing
pub taken-off-nothing : (s : Merge) (y : Interval) → s.op ≡ Minus → s.left ≡ Ended → s.right ≡ Open → TakesOff s y None s
taken-off-nothing s y op left right after f =
    let m : IsNormal (y ∷ after) = rw right at f.right in
    let none : s.kept ≡ None = minus-keeps s.kept (rw op at f.keeps) in
    let before : still s [] (y ∷ after) ≡ [] = rw (none, op, left, nothing-minus) (union-nil [] tt) in
    let behind : still s [] after ≡ [] = rw (none, op, left, nothing-minus) (union-nil [] tt) in (
      record { left = rw left tt; right = rw right m.2; kept = rw none tt; keeps = f.keeps },
      before ∙ sym behind,
    )
