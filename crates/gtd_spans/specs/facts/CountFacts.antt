-- Counts of the seconds of a set.
use Rattle.std.proofs.Common.{◌≡◌, ◌∙◌, sym, ap, refl, subst, ◌+◌, ◌≤◌, ◌⊎◌, ◌↔◌, inl, inr, ℕ, zero, suc, arith, zero-add}
use Rattle.std.specs.Prelude.{ℤ, pos, ◌+ℤ◌, ◌≤ℤ◌, ◌<ℤ◌, List, [], ◌∷◌, ◌-◌}
use Rattle.std.proofs.lemmas.Int.{ints, by_lt_z}
use borrow.Author.Differences.{up, down}
use Rattle.gtd_core.specs.Seconds.{Interval, Within}
use Rattle.gtd_spans.specs.Normal.{Holds, IsNormal}
use Rattle.gtd_spans.specs.facts.OneList.{after-holds}
use Rattle.std.specs.Prelude.{Option, Some, None}
use Rattle.gtd_spans.specs.Sweeping.{Takes}
use Rattle.gtd_spans.specs.Counting.{spans_to_come, IsCount}

-- the n seconds from t on
abbrev pub Among : ℤ → ℕ → ℤ → Type 0
Among t n s = (t ≤ℤ s) × (s <ℤ (t +ℤ pos n))

later : (t : ℤ) (n : ℕ) (s : ℤ) → Among (t +ℤ pos 1) n s → Among t (suc n) s
later t n s h = (omega (arith, ints, h.0, h.1), omega (arith, ints, h.0, h.1))

now : (t : ℤ) (n : ℕ) → Among t (suc n) t
now t n = (omega (arith, ints), omega (arith, ints))

-- none of the seconds is in the set
pub count-none : (set : ℤ → Type 0) (t : ℤ) (n : ℕ) → ((s : ℤ) → Among t n s → set s → ⊥) → IsCount set t n 0
unfolding IsCount
count-none set t zero h = refl
count-none set t (suc n) h =
    (0, count-none set (t +ℤ pos 1) n (λ s a. h s (later t n s a)), inr (h t (now t n), refl))

-- all of the seconds are in the set
pub count-all : (set : ℤ → Type 0) (t : ℤ) (n : ℕ) → ((s : ℤ) → Among t n s → set s) → IsCount set t n n
unfolding IsCount
count-all set t zero h = refl
count-all set t (suc n) h =
    (n, count-all set (t +ℤ pos 1) n (λ s a. h s (later t n s a)), inl (h t (now t n), omega arith))

-- first some seconds and then more
count-then-at : (set : ℤ → Type 0) (t u : ℤ) (n m i j : ℕ) → u ≡ t +ℤ pos n → IsCount set t n i → IsCount set u m j
    → IsCount set t (n + m) (i + j)
unfolding IsCount
count-then-at set t u zero m i j e p q =
    let same : u ≡ t = omega (arith, ints, e) in
    let k : i + j ≡ j = omega (arith, p) in
    rw (zero-add m, k, ← same) q
count-then-at set t u (suc n) m i j e p q =
    let r = count-then-at set (t +ℤ pos 1) u n m p.0 j (omega (arith, ints, e)) p.1 q in
    let k : suc n + m ≡ suc (n + m) = omega arith in
    rw k (p.0 + j, r, elim p.2 [ inl y ↦ inl (y.0, omega (arith, y.1)) | inr y ↦ inr (y.0, omega (arith, y.1)) ])

pub count-then : (set : ℤ → Type 0) (t : ℤ) (n m i j : ℕ) → IsCount set t n i → IsCount set (t +ℤ pos n) m j
    → IsCount set t (n + m) (i + j)
count-then set t n m i j p q = count-then-at set t (t +ℤ pos n) n m i j refl p q

-- two sets with the same seconds there
pub count-same : (one two : ℤ → Type 0) (t : ℤ) (n i : ℕ) → ((s : ℤ) → Among t n s → one s ↔ two s) → IsCount one t n i
    → IsCount two t n i
unfolding IsCount
count-same one two t zero i h p = p
count-same one two t (suc n) i h p =
    let r = count-same one two (t +ℤ pos 1) n p.0 (λ s a. h s (later t n s a)) p.1 in
    let b = h t (now t n) in
    (p.0, r, elim p.2 [ inl y ↦ inl (b.0 y.0, y.1) | inr y ↦ inr ((λ k. y.0 (b.1 k)), y.1) ])

-- the seconds of two sets that share none
pub count-either : (one two : ℤ → Type 0) (t : ℤ) (n i j : ℕ) → ((s : ℤ) → one s → two s → ⊥) → IsCount one t n i
    → IsCount two t n j
    → IsCount (λ s. one s ⊎ two s) t n (i + j)
unfolding IsCount
count-either one two t zero i j apart p q = omega (arith, p, q)
count-either one two t (suc n) i j apart p q =
    let r = count-either one two (t +ℤ pos 1) n p.0 q.0 apart p.1 q.1 in (
      p.0 + q.0,
      r,
      elim p.2 [
        | inl y ↦ elim q.2 [ inl z ↦ absurd (apart t y.0 z.0) | inr z ↦ inl (inl y.0, omega (arith, y.1, z.1)) ]
        | inr y ↦ elim q.2 [
          | inl z ↦ inl (inr z.0, omega (arith, y.1, z.1))
          | inr z ↦ inr ((λ k. elim k [ inl a ↦ y.0 a | inr b ↦ z.0 b ]), omega (arith, y.1, z.1))
        ]
      ],
    )

-- there is one count
pub one-count : (set : ℤ → Type 0) (t : ℤ) (n i j : ℕ) → IsCount set t n i → IsCount set t n j → i ≡ j
unfolding IsCount
one-count set t zero i j p q = p ∙ sym q
one-count set t (suc n) i j p q =
    let e : p.0 ≡ q.0 = one-count set (t +ℤ pos 1) n p.0 q.0 p.1 q.1 in
    elim p.2 [
      | inl y ↦ elim q.2 [ inl z ↦ omega (arith, e, y.1, z.1) | inr z ↦ absurd (z.0 y.0) ]
      | inr y ↦ elim q.2 [ inl z ↦ absurd (y.0 z.0) | inr z ↦ omega (arith, e, y.1, z.1) ]
    ]

-- a count is no more than the seconds
pub count-few : (set : ℤ → Type 0) (t : ℤ) (n i : ℕ) → IsCount set t n i → i ≤ n
unfolding IsCount
count-few set t zero i p = omega (arith, p)
count-few set t (suc n) i p =
    let r = count-few set (t +ℤ pos 1) n p.0 p.1 in
    elim p.2 [ inl y ↦ omega (arith, y.1, r) | inr y ↦ omega (arith, y.1, r) ]

-- the seconds of an interval among those, if they run from f on and before u
pub count-cut : (x : Interval) (t f u : ℤ) (n m : ℕ) → t ≤ℤ f → u ≤ℤ (t +ℤ pos n) → f +ℤ pos m ≡ u
    → ((s : ℤ) → Among t n s → Within x s ↔ ((f ≤ℤ s) × (s <ℤ u))) → IsCount (Within x) t n m
count-cut x t f u n m a b e h =
    let k : ℕ = (up f + down t) - (up t + down f) in
    let r : ℕ = n - (k + m) in
    let one : t +ℤ pos k ≡ f = omega (arith, ints, a) in
    let two : t +ℤ pos (k + m) ≡ u = omega (arith, ints, one, e) in
    let all : k + m + r ≡ n = omega (arith, ints, two, b) in
    let p = count-none (Within x) t k (λ s w i. let q = (h s (w.0, omega (arith, ints, w.1, one, e, b))).0 i in
    omega (arith, ints, w.1, one, q.0)) in
    let q = count-all (Within x) (t +ℤ pos k) m (λ s w. (h s (omega (arith, ints, w.0), omega (arith, ints, w.1, two, b))).1
    (omega (arith, ints, w.0, one), omega (arith, ints, w.1, two))) in
    let z = count-none (Within x) (t +ℤ pos (k + m)) r (λ s w i. let q =
    (h s (omega (arith, ints, w.0), omega (arith, ints, w.1, all))).0 i in omega (arith, ints, w.0, two, q.1)) in
    let s = count-then (Within x) t (k + m) r (0 + m) 0 (count-then (Within x) t k m 0 m p q) z in
    let c : 0 + m + 0 ≡ m = omega arith in
    subst (λ (i : ℕ). IsCount (Within x) t i m) all (subst (λ (i : ℕ). IsCount (Within x) t (k + m + r) i) c s)

-- one second of an interval that ends before the others begin is in none of them
pub apart : (x : Interval) (xs : List Interval) → IsNormal (x ∷ xs) → (s : ℤ) → Within x s → Holds xs s → ⊥
apart x xs n s w h = let a = after-holds x.until s xs n.1 h in omega (arith, ints, a, w.1)

-- a list holds a second or does not
held-or : (xs : List Interval) (s : ℤ) → Holds xs s ⊎ (Holds xs s → ⊥)
held-or [] s = inr (λ h. h)
held-or (x ∷ xs) s =
    elim (held-or xs s) [
      | inl h ↦ inl (inr h)
      | inr none ↦ by_lt_z {P = (Holds (x ∷ xs) s ⊎ (Holds (x ∷ xs) s → ⊥))} s x.from
          (λ lt. inr (λ h. elim h [ inl w ↦ omega (arith, ints, w.0, lt) | inr k ↦ none k ]))
          (λ ge. by_lt_z {P = (Holds (x ∷ xs) s ⊎ (Holds (x ∷ xs) s → ⊥))} s x.until
          (λ lt. inl (inl (ge, lt)))
          (λ le. inr (λ h. elim h [ inl w ↦ omega (arith, ints, w.1, le) | inr k ↦ none k ])))
    ]

-- the seconds of a list can be counted
pub count-held : (xs : List Interval) (t : ℤ) (n : ℕ) → (i : ℕ) × IsCount (Holds xs) t n i
unfolding IsCount
count-held xs t zero = (0, refl)
count-held xs t (suc n) =
    let r = count-held xs (t +ℤ pos 1) n in
    elim (held-or xs t) [
      | inl h ↦ (r.0 + 1, (r.0, r.1, inl (h, refl)))
      | inr h ↦ (r.0, (r.0, r.1, inr (h, refl)))
    ]

-- the first interval's seconds, and those of the others
pub count-first : (x : Interval) (xs : List Interval) (t : ℤ) (n i j : ℕ) → IsNormal (x ∷ xs) → IsCount (Within x) t n i
    → IsCount (Holds xs) t n j → IsCount (Holds (x ∷ xs)) t n (i + j)
count-first x xs t n i j normal p q = count-either (Within x) (Holds xs) t n i j (apart x xs normal) p q

-- from the end of the first interval on, the others hold what the list holds
pub later-same : (x : Interval) (xs : List Interval) (s : ℤ) → x.until ≤ℤ s → Holds (x ∷ xs) s ↔ Holds xs s
later-same x xs s h = ((λ k. elim k [ inl w ↦ absurd (omega (arith, ints, w.1, h)) | inr r ↦ r ]), (λ r. inr r))

-- what a source takes off its list comes to hand
pub takes-is : (before : List Interval) (r : Option Interval) (after : List Interval) → Takes before r after → before
    ≡ spans_to_come r after
takes-is before None after h = h.0
takes-is before (Some x) after h = h

module _ (held : Option Interval) (x : Interval) (rest : List Interval) (is : held ≡ Some x)
    (normal : IsNormal (spans_to_come held rest)) where
  at_hand : spans_to_come held rest ≡ x ∷ rest
  at_hand = ap (λ (o : Option Interval). spans_to_come o rest) is

  -- from its end on, the span at hand is used up
  pub day-later : (s : ℤ) → x.until ≤ℤ s → Holds (spans_to_come held rest) s ↔ Holds rest s
  day-later s h = subst (λ (xs : List Interval). Holds xs s ↔ Holds rest s) (sym at_hand) (later-same x rest s h)
