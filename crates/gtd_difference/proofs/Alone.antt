-- What one set has alone, by the spans that it has without those of the other.
use Rattle.std.proofs.Common.{◌≡◌, ◌↔◌, ◌⊎◌, List, ◌∷◌, Option, Some, None, IfSome, MatchOption, inl, inr, arith, subst}
use Rattle.std.proofs.Common.{true, false}
use Rattle.std.specs.Prelude.{ℤ, pos, ◌-ℤ◌, ◌≤ℤ◌, ◌<ℤ◌, int_lt}
use Rattle.std.proofs.lemmas.Int.{ints, by_lt_z}
use Rattle.gtd_core.specs.Seconds.{Interval}
use Rattle.gtd_core.specs.declared.second.Sec.{Sec}
use Rattle.gtd_core.specs.facts.Deciding.{Decided}
use Rattle.gtd_spans.specs.Merging.{Takes}
use Rattle.gtd_spans.specs.Normal.{Holds, IsNormal, IsNormalFor}
use Rattle.gtd_spans.specs.facts.NormalFor.{normal-of}
use Rattle.gtd_spans.specs.facts.OneList.{first-holds}
use Rattle.gtd_difference.specs.Difference.{AgreeFrom, IsApart, HoldsNone, IsFirstHeld, HasNoneAlone, IsFirstAlone}
use Rattle.gtd_difference.specs.Difference.{IsHeldSpan, earlier, earlier_of, seen_begin, seen_end}
use Rattle.gtd_difference.specs.declared.comparison.Side.TheVariants.{First, Second}

-- the first second of a normal list from one on at which its first interval has not ended
pub first-of : (xs rest : List Interval) (x : Interval) (from s : ℤ) → IsNormal (x ∷ rest)
    → ((t : ℤ) → from ≤ℤ t → Holds xs t ↔ Holds (x ∷ rest) t) → from <ℤ x.until
    → (from ≤ℤ s) × (x.from ≤ℤ s) → (s ≡ from) ⊎ (s ≡ x.from) → IsFirstHeld (Holds xs) from s
first-of xs rest x from s normal same ends late is = record {
  later = late.0;
  held = (same s late.0).1 (inl (late.1, omega (arith, ints, is, ends, normal.0)));
  least = λ t later before h.
      let q : x.from ≤ℤ t = first-holds x rest t normal ((same t later).0 h) in
      omega (arith, ints, q, later, before, is);
}

-- the first interval of a list that is normal for a set is within its bounds
pub first-in : (P : ℤ → Type 0) (begin until : ℤ) (xs rest : List Interval) (x : Interval) → IsNormalFor P begin until xs
    → xs ≡ x ∷ rest → (begin ≤ℤ x.from) × (x.from <ℤ x.until) × (x.until ≤ℤ until)
first-in P begin until xs rest x n e =
    let normal : IsNormal (x ∷ rest) = subst IsNormal e (normal-of P begin until xs n) in
    let i = n.inside x.from (rw e (inl (omega (arith, ints), omega (arith, ints, normal.0)))) in
    let j = n.inside (x.until -ℤ pos 1) (rw e (inl (omega (arith, ints, normal.0), omega (arith, ints)))) in
    (i.0, omega (arith, ints, normal.0), omega (arith, ints, j.1))

-- the first interval of a list, as the code knows it
held-span : (P : ℤ → Type 0) (begin until : ℤ) (xs rest : List Interval) (x : Interval) → begin ≡ seen_begin
    → until ≡ seen_end → IsNormalFor P begin until xs → xs ≡ x ∷ rest → IsHeldSpan P x
held-span P begin until xs rest x b u n e =
    let i = first-in P begin until xs rest x n e in
    record {
      moment = (omega (arith, ints, i.0, b), omega (arith, ints, i.1, i.2, u));
      ended = omega (arith, ints, i.2, u);
      held = λ t w. (n.inside t (rw e (inl w))).2;
    }

pub held-first : (P : ℤ → Type 0) (begin until : ℤ) (xs rest : List Interval) (o : Option Interval) → begin ≡ seen_begin
    → until ≡ seen_end → IsNormalFor P begin until xs → Takes xs o rest → IfSome o (IsHeldSpan P)
held-first P begin until xs rest None b u n t = tt
held-first P begin until xs rest (Some x) b u n t = held-span P begin until xs rest x b u n t

-- ---- two lists that are normal for two sets, and a third that holds what the first holds alone

module _ (P Q : ℤ → Type 0) (decided : (t : ℤ) → Decided (Q t)) (begin until from : ℤ) (xs ys zs : List Interval)
    (p : IsNormalFor P begin until xs) (q : IsNormalFor Q begin until ys)
    (is : (t : ℤ) → Holds zs t ↔ (Holds xs t × (Holds ys t → ⊥))) (begun : begin ≤ℤ from) where
  held : (t : ℤ) → from ≤ℤ t → t <ℤ until → P t → (Q t → ⊥) → Holds zs t
  held t later before a n = (is t).1 (p.complete t (omega (arith, ints, begun, later), before, a), (λ h. n (q.inside t h).2))

  none : HoldsNone (Holds zs) from → HasNoneAlone P Q from until
  none h t later before a = elim (decided t) [ inl b ↦ b | inr n ↦ absurd (h t later (held t later before a n)) ]

  first : (s : ℤ) → IsFirstHeld (Holds zs) from s → IsFirstAlone P Q from until s
  first s h =
      let k = (is s).0 h.held in
      let i = p.inside s k.0 in
      record {
        later = h.later;
        within = i.1;
        alone = (i.2, (λ b. k.1 (q.complete s (i.0, i.1, b))));
        least = λ t later before a. elim (decided t) [
          | inl b ↦ b
          | inr n ↦ absurd (h.least t later before (held t later (omega (arith, ints, before, i.1)) a n))
        ];
      }

  pub alone-by : (o : Option Sec) → MatchOption o (HoldsNone (Holds zs) from) (λ s. IsFirstHeld (Holds zs) from s.0)
      → MatchOption o (HasNoneAlone P Q from until) (λ s. IsFirstAlone P Q from until s.0)
  alone-by None h = none h
  alone-by (Some s) h = first s.0 h

-- ---- the earlier of what each of two sets has alone

module _ (P Q : ℤ → Type 0) (from until : ℤ) where
  of-first : (s : Sec) (o : ℤ) → IsFirstAlone P Q from until s.0 → s.0 ≤ℤ o → HasNoneAlone Q P from o
      → IsApart P Q from until (record { second = s; side = First })
  of-first s o h le k = record {
    later = h.later;
    within = h.within;
    alone = h.alone;
    least = λ t later before. (h.least t later before, k t later (omega (arith, ints, before, le)));
  }

  of-second : (s : Sec) (o : ℤ) → IsFirstAlone Q P from until s.0 → s.0 ≤ℤ o → HasNoneAlone P Q from o
      → IsApart P Q from until (record { second = s; side = Second })
  of-second s o h le k = record {
    later = h.later;
    within = h.within;
    alone = h.alone;
    least = λ t later before. (k t later (omega (arith, ints, before, le)), h.least t later before);
  }

  lt-true : (a b : ℤ) → a <ℤ b → int_lt a b ≡ true
  lt-true a b h = grind (arith, ints)

  lt-false : (a b : ℤ) → b ≤ℤ a → int_lt a b ≡ false
  lt-false a b h = grind (arith, ints)

  of-both : (s t : Sec) → IsFirstAlone P Q from until s.0 → IsFirstAlone Q P from until t.0
      → IsApart P Q from until (earlier_of s t)
  of-both s t h k =
      by_lt_z {P = IsApart P Q from until (earlier_of s t)} t.0 s.0
      (λ lt. rw (lt-true t.0 s.0 lt) (of-second t s.0 k (omega (arith, ints, lt)) h.least))
      (λ ge. rw (lt-false t.0 s.0 ge) (of-first s t.0 h ge k.least))

  pub apart-by : (o u : Option Sec)
      → MatchOption o (HasNoneAlone P Q from until) (λ s. IsFirstAlone P Q from until s.0)
      → MatchOption u (HasNoneAlone Q P from until) (λ s. IsFirstAlone Q P from until s.0)
      → MatchOption (earlier o u) (AgreeFrom P Q from until) (IsApart P Q from until)
  apart-by None None h k = λ t later before. (h t later before, k t later before)
  apart-by None (Some t) h k = of-second t until k (omega (arith, ints, k.within)) h
  apart-by (Some s) None h k = of-first s until h (omega (arith, ints, h.within)) k
  apart-by (Some s) (Some t) h k = of-both s t h k
