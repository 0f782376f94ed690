-- What a walk tells of the seconds from where it is on: for `walk::walk_to` and `walk::held_here`.
use Rattle.std.proofs.Common.{◌≡◌, sym, refl, inl, inr, arith, ◌↔◌, true, false, true≢false, List, [], ◌∷◌, Option, Some, None}
use Rattle.std.specs.Prelude.{ℤ, ◌≤ℤ◌, ◌<ℤ◌, IsTrue}
use Rattle.std.proofs.lemmas.Int.{ints}
use Rattle.gtd_core.specs.Seconds.{Interval}
use Rattle.gtd_spans.specs.Merging.{Takes}
use Rattle.gtd_spans.specs.Normal.{Holds, IsNormal}
use Rattle.gtd_spans.specs.facts.OneList.{after-holds, first-holds}
use Rattle.gtd_ask.specs.Walks.{with_taken}

-- what is taken off a list comes back with the rest of it
pub taken_is : (before after : List Interval) (o : Option Interval) → Takes before o after → with_taken o after ≡ before
taken_is before after None takes = sym takes.0
taken_is before after (Some x) takes = sym takes

-- the spans hold the seconds of a set from one on and before another
abbrev pub HoldFrom : (ℤ → Type 0) → ℤ → ℤ → List Interval → Type 0
HoldFrom set at end xs = (t : ℤ) → at ≤ℤ t → t <ℤ end → Holds xs t ↔ set t

module _ (set : ℤ → Type 0) (at end : ℤ) where
  pub later : (to : ℤ) (xs : List Interval) → at ≤ℤ to → HoldFrom set at end xs → HoldFrom set to end xs
  later to xs le same = λ t from lt. same t (omega (arith, ints, le, from)) lt

  module _ (x : Interval) (xs : List Interval) (normal : IsNormal (x ∷ xs)) (same : HoldFrom set at end (x ∷ xs)) where
    -- without a span that is passed
    pub passed : x.until ≤ℤ at → HoldFrom set at end xs
    passed le = λ t from lt.
        let is = same t from lt in (
          (λ h. is.0 (inr h)),
          (λ s. elim (is.1 s) [
            | inl w ↦ absurd (omega (arith, ints, w.1, le, from))
            | inr h ↦ h
          ]),
        )

    -- before the first span it has none
    pub before : (t : ℤ) → at ≤ℤ t → t <ℤ x.from → t <ℤ end → IsTrue false ↔ set t
    before t from early lt = (
      (λ e. absurd (true≢false (sym e))),
      (λ s. let h = first-holds x xs t normal ((same t from lt).1 s) in absurd (omega (arith, ints, h, early))),
    )

    -- with the span it begins
    pub begins : at <ℤ x.from → x.from <ℤ end → (IsTrue false ↔ set x.from) → ⊥
    begins from lt is =
        true≢false (sym (is.1 ((same x.from (omega (arith, ints, from)) lt).0 (inl (omega (arith, ints), normal.0)))))

    -- in the span it has all
    pub inside : x.from ≤ℤ at → (t : ℤ) → at ≤ℤ t → t <ℤ x.until → t <ℤ end → IsTrue true ↔ set t
    inside le t from early lt = (
      (λ e. (same t from lt).0 (inl (omega (arith, ints, le, from), early))),
      (λ s. refl),
    )

    -- after the span it has none
    pub ends : at <ℤ x.until → x.until <ℤ end → (IsTrue true ↔ set x.until) → ⊥
    ends from lt is =
        elim ((same x.until (omega (arith, ints, from)) lt).1 (is.0 refl)) [
          | inl w ↦ omega (arith, ints, w.1)
          | inr h ↦ let q = after-holds x.until x.until xs normal.1 h in omega (arith, ints, q)
        ]

  -- with no span it has none
  pub nothing : HoldFrom set at end [] → (t : ℤ) → at ≤ℤ t → t <ℤ end → IsTrue false ↔ set t
  nothing same t from lt = ((λ e. absurd (true≢false (sym e))), (λ s. absurd ((same t from lt).1 s)))
