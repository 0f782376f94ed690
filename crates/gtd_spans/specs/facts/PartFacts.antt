-- The part of a list of spans that lies within bounds.
use Rattle.std.proofs.Common.{ℕ, ◌+◌, ◌≡◌, ◌∙◌, sym, ap, subst, ◌⊎◌, ◌↔◌, inl, inr, arith, List, [], ◌∷◌}
use Rattle.std.specs.Prelude.{ℤ, pos, ◌+ℤ◌, ◌-ℤ◌, ◌≤ℤ◌, ◌<ℤ◌, Option, Some, None, MatchOption}
use Rattle.std.proofs.lemmas.Int.{ints}
use Rattle.gtd_core.specs.Seconds.{Interval, Within}
use Rattle.gtd_core.specs.declared.domain.Op.TheVariants.{Meet}
use Rattle.gtd_spans.specs.facts.Combining.{combine-normal, combine-holds}
use Rattle.gtd_spans.specs.Counting.{IsCount, day_at, part_within, spans_to_come}
use Rattle.gtd_spans.specs.Normal.{AllBeginAfter, Holds, IsNormal, IsNormalFor}
use Rattle.gtd_spans.specs.facts.CountFacts.{count-cut, count-first, count-none, count-same}
use Rattle.gtd_spans.specs.facts.NormalFor.{normal-for}
use Rattle.gtd_spans.specs.facts.OneList.{after-holds, first-holds, one-list}
use Rattle.gtd_spans.specs.Sweeping.{Takes}

pub part-normal : (d : Interval) (xs : List Interval) → IsNormal (part_within d xs)
part-normal d xs = combine-normal Meet xs (d ∷ [])

alone : (d : Interval) (t : ℤ) → Holds (d ∷ []) t → Within d t
alone d t h = elim h [ inl w ↦ w | inr k ↦ absurd k ]

-- what both hold
pub part-holds : (d : Interval) (xs : List Interval) (t : ℤ) → Holds (part_within d xs) t ↔ (Holds xs t × Within d t)
part-holds d xs t =
    let c = combine-holds Meet xs (d ∷ []) t in
    ((λ h. let k = c.0 h in (k.0, alone d t k.1)), (λ h. c.1 (h.0, inl h.1)))

-- lists that hold the same there
pub part-same : (d : Interval) (xs ys : List Interval) → ((t : ℤ) → Within d t → Holds xs t ↔ Holds ys t)
    → part_within d xs ≡ part_within d ys
part-same d xs ys h =
    one-list (part_within d xs) (part_within d ys) (part-normal d xs) (part-normal d ys) (λ t.
    let a = part-holds d xs t in
    let b = part-holds d ys t in (
      (λ k. let w = a.0 k in b.1 ((h t w.1).0 w.0, w.1)),
      (λ k. let w = b.0 k in a.1 ((h t w.1).1 w.0, w.1)),
    ))

-- a list that holds nothing there
pub part-none : (d : Interval) (xs : List Interval) → ((t : ℤ) → Holds xs t → Within d t → ⊥) → part_within d xs ≡ []
part-none d xs h =
    one-list (part_within d xs) [] (part-normal d xs) tt (λ t.
    let a = part-holds d xs t in
    ((λ k. let w = a.0 k in h t w.0 w.1), (λ k. absurd k)))

begin-after : (b : ℤ) (xs : List Interval) → IsNormal xs → ((t : ℤ) → Holds xs t → b <ℤ t) → AllBeginAfter b xs
begin-after b [] n h = tt
begin-after b (x ∷ xs) n h =
    (h x.from (inl (omega (arith, ints), n.0)), begin-after b xs n.2 (λ t k. h t (inr k)))

-- the first span there, and the others
pub part-first : (d p : Interval) (xs ys : List Interval) → p.from <ℤ p.until → ((t : ℤ) → Within p t → Within d t)
    → ((t : ℤ) → Within d t → Holds xs t ↔ (Within p t ⊎ Holds ys t))
    → ((t : ℤ) → Within d t → Holds ys t → p.until <ℤ t) → part_within d xs ≡ p ∷ part_within d ys
part-first d p xs ys some inside same after =
    one-list (part_within d xs) (p ∷ part_within d ys) (part-normal d xs) (
      some,
      begin-after p.until (part_within d ys) (part-normal d ys) (λ t k. let w = (part-holds d ys t).0 k in after t w.1
          w.0),
      part-normal d ys,
    )
    (λ t.
    let a = part-holds d xs t in
    let b = part-holds d ys t in (
      (λ k. let w = a.0 k in elim ((same t w.1).0 w.0) [ inl i ↦ inl i | inr j ↦ inr (b.1 (j, w.1)) ]),
      (λ k. elim k [
        | inl i ↦ let w = inside t i in a.1 ((same t w).1 (inl i), w)
        | inr j ↦ let w = b.0 j in a.1 ((same t w.1).1 (inr w.0), w.1)
      ]),
    ))

-- the part of a list is the normal list of its seconds there
pub part-normal-for : (d : Interval) (xs : List Interval) → IsNormalFor (Holds xs) d.from d.until (part_within d xs)
part-normal-for d xs =
    normal-for (Holds xs) d.from d.until (part_within d xs) (part-normal d xs) (λ t.
    let c = part-holds d xs t in
    ((λ h. let k = c.0 h in (k.1.0, k.1.1, k.0)), (λ h. c.1 (h.2, (h.0, h.1)))))

-- a part lies within its bounds
pub part-inside : (d p : Interval) (xs rest : List Interval) → part_within d xs ≡ p ∷ rest
    → (d.from ≤ℤ p.from) × (p.from <ℤ p.until) × (p.until ≤ℤ d.until)
part-inside d p xs rest is =
    let n : IsNormal (p ∷ rest) = subst IsNormal is (part-normal d xs) in
    let there : (t : ℤ) → Within p t → Within d t = λ t w.
    ((part-holds d xs t).0 (subst (λ (ys : List Interval). Holds ys t) (sym is) (inl w))).1 in
    let first = there p.from (omega (arith, ints), n.0) in
    let last = there (p.until -ℤ pos 1) (omega (arith, ints, n.0), omega (arith, ints)) in
    (first.0, n.0, omega (arith, ints, last.1))

module _ (d : Interval) (held : Option Interval) (x : Interval) (rest : List Interval) (is : held ≡ Some x) (normal : IsNormal
    (spans_to_come held rest)) where
  at_hand : spans_to_come held rest ≡ x ∷ rest
  at_hand = ap (λ (o : Option Interval). spans_to_come o rest) is

  normal_there : IsNormal (x ∷ rest)
  normal_there = subst IsNormal at_hand normal

  pub rest-normal : IsNormal rest
  rest-normal = normal_there.2

  -- the span at hand begins after the bounds
  pub take-behind : d.until ≤ℤ x.from → Takes (part_within d (spans_to_come held rest)) None (part_within d (spans_to_come
      held rest))
  take-behind h =
      let none = part-none d (x ∷ rest) (λ t k w. let f = first-holds x rest t normal_there k in omega (
        arith,
        ints,
        f,
        w.1,
        h,
      )) in
      let all : part_within d (spans_to_come held rest) ≡ [] = ap (part_within d) at_hand ∙ none in
      (all, all)

  -- the span at hand ends before the bounds
  pub take-skip : ((t : ℤ) → Within x t → Within d t → ⊥) → part_within d (spans_to_come held rest) ≡ part_within d rest
  take-skip h =
      ap (part_within d) at_hand
      ∙ part-same d (x ∷ rest) rest (λ t w. ((λ k. elim k [ inl i ↦ absurd (h t i w) | inr j ↦ j ]), (λ j. inr j)))

  -- the part of the span at hand, which does not end after the bounds
  pub take-part : (p : Interval) → p.from <ℤ p.until → p.until ≤ℤ x.until → ((t : ℤ) → Within p t ↔ (Within x t × Within d t))
      → part_within d (spans_to_come held rest) ≡ p ∷ part_within d rest
  take-part p some ends is_part =
      ap (part_within d) at_hand
      ∙ part-first d p (x ∷ rest) rest some (λ t i. ((is_part t).0 i).1)
      (λ t w. (
        (λ k. elim k [ inl i ↦ inl ((is_part t).1 (i, w)) | inr j ↦ inr j ]),
        (λ k. elim k [ inl i ↦ inl ((is_part t).0 i).0 | inr j ↦ inr j ]),
      ))
      (λ t w j. let a = after-holds x.until t rest normal_there.1 j in omega (arith, ints, a, ends))

  -- what is left of the span at hand, which ends after the bounds
  module _ (y : Interval) (from : y.from ≡ d.until) (until : y.until ≡ x.until) (begins : x.from <ℤ d.until) (ends : d.until
      <ℤ x.until) where
    pub left-normal : IsNormal (y ∷ rest)
    left-normal = (
      omega (arith, ints, from, until, ends),
      subst (λ (b : ℤ). AllBeginAfter b rest) (sym until) normal_there.1,
      normal_there.2,
    )

    pub left-later : (t : ℤ) → d.until ≤ℤ t → Holds (spans_to_come held rest) t ↔ Holds (y ∷ rest) t
    left-later t h =
        subst (λ (xs : List Interval). Holds xs t ↔ Holds (y ∷ rest) t) (sym at_hand) (
          (λ k. elim k [ inl w ↦ inl (omega (arith, ints, from, h), omega (arith, ints, w.1, until)) | inr j ↦ inr j ]),
          (λ k. elim k [ inl w ↦ inl (omega (arith, ints, begins, h), omega (arith, ints, w.1, until)) | inr j ↦ inr j ]),
        )

    beyond : (t : ℤ) → Within d t → Holds (y ∷ rest) t → ⊥
    beyond t w k =
        elim k [
          | inl i ↦ omega (arith, ints, i.0, from, w.1)
          | inr j ↦ let a = after-holds x.until t rest normal_there.1 j in omega (arith, ints, a, w.1, ends)
        ]

    pub take-last : (r : Option Interval)
        → MatchOption r ((t : ℤ) → Within x t → Within d t → ⊥) (λ m. (t : ℤ) → Within m t ↔ (Within x t × Within d t))
        → MatchOption r (Unit {0}) (λ m. (m.from <ℤ m.until) × (m.until ≤ℤ x.until) × (m.until ≤ℤ d.until))
        → Takes (part_within d (spans_to_come held rest)) r (part_within d (y ∷ rest))
    take-last None meets within =
        let none = part-none d rest (λ t j w. beyond t w (inr j)) in
        (take-skip meets ∙ none, part-none d (y ∷ rest) (λ t k w. beyond t w k))
    take-last (Some p) meets within =
        let none = part-none d rest (λ t j w. beyond t w (inr j)) in
        let left = part-none d (y ∷ rest) (λ t k w. beyond t w k) in
        take-part p within.0 within.1 meets ∙ ap (λ (l : List Interval). p ∷ l) (none ∙ sym left)

-- nothing is to come
pub take-none : (d : Interval) (held : Option Interval) (rest : List Interval) → held ≡ None
    → Takes (part_within d (spans_to_come held rest)) None (part_within d (spans_to_come held rest))
take-none d held rest is =
    let none : part_within d (spans_to_come held rest) ≡ [] =
    ap (λ (o : Option Interval). part_within d (spans_to_come o rest)) is ∙ part-none d [] (λ t k w. k) in
    (none, none)

-- what a list that has the same part gives
pub takes-from : (d : Interval) (xs ys zs : List Interval) (r : Option Interval) → part_within d xs ≡ part_within d ys
    → Takes (part_within d ys) r (part_within d zs)
    → Takes (part_within d xs) r (part_within d zs)
takes-from d xs ys zs r e h = subst (λ (l : List Interval). Takes l r (part_within d zs)) (sym e) h

-- the seconds of one part of a day
part-count : (midnight : ℤ) (p : Interval) (n : ℕ) → midnight ≤ℤ p.from → p.until ≤ℤ (midnight +ℤ pos 86400)
    → p.from +ℤ pos n ≡ p.until
    → IsCount (Within p) midnight 86400 n
part-count midnight p n begins ends long =
    count-cut p midnight p.from p.until 86400 n begins ends long (λ s i. ((λ w. w), (λ w. w)))

-- the seconds of the first part of a day, and those of the others
pub part-first-count : (midnight : ℤ) (d p : Interval) (xs ys : List Interval) (n more : ℕ) → d ≡ day_at midnight
    → part_within d xs ≡ p ∷ part_within d ys → p.from +ℤ pos n ≡ p.until
    → IsCount (Holds (part_within d ys)) midnight 86400 more → IsCount (Holds (part_within d xs)) midnight 86400 (n + more)
part-first-count midnight d p xs ys n more is takes long counted =
    let from = ap (λ (i : Interval). i.from) is in
    let until = ap (λ (i : Interval). i.until) is in
    let inside = part-inside d p xs (part_within d ys) takes in
    let normal : IsNormal (p ∷ part_within d ys) = subst IsNormal takes (part-normal d xs) in
    subst (λ (l : List Interval). IsCount (Holds l) midnight 86400 (n + more)) (sym takes)
    (count-first p (part_within d ys) midnight 86400 n more normal
    (part-count midnight p n (omega (arith, ints, inside.0, from)) (omega (arith, ints, inside.2, until)) long) counted)

-- a list has as many seconds on a day as its part on the day
pub part-whole-count : (midnight : ℤ) (d : Interval) (xs : List Interval) (n : ℕ) → d ≡ day_at midnight
    → IsCount (Holds (part_within d xs)) midnight 86400 n → IsCount (Holds xs) midnight 86400 n
part-whole-count midnight d xs n is counted =
    let from = ap (λ (i : Interval). i.from) is in
    let until = ap (λ (i : Interval). i.until) is in
    count-same (Holds (part_within d xs)) (Holds xs) midnight 86400 n (λ s a.
    let h = part-holds d xs s in
    ((λ k. (h.0 k).0), (λ k. h.1 (k, (omega (arith, ints, a.0, from), omega (arith, ints, a.1, until)))))) counted

-- nothing on a day is no second
pub part-none-count : (midnight : ℤ) (d : Interval) (xs : List Interval) → part_within d xs ≡ []
    → IsCount (Holds (part_within d xs)) midnight 86400 0
part-none-count midnight d xs none =
    subst (λ (l : List Interval). IsCount (Holds l) midnight 86400 0) (sym none) (count-none (Holds []) midnight 86400 (λ s a
    h. h))
