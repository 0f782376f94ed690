-- What states that hold for some seconds tell: for `held::known_by`, `held::joined` and `held::held_alone`.
use Rattle.std.proofs.Common.{◌≡◌, subst, arith, ◌↔◌, Bool}
use Rattle.std.specs.Prelude.{ℤ, ◌≤ℤ◌, ◌<ℤ◌, IsTrue}
use Rattle.std.proofs.lemmas.Int.{ints, by_lt_z}
use Rattle.gtd_spans.specs.Change.{IsNextChange, NeverChanges}

-- whether a set has each second from one on and before another is as said
abbrev pub HoldsFrom : (ℤ → Type 0) → Bool → ℤ → ℤ → Type 0
HoldsFrom set b from until = (t : ℤ) → from ≤ℤ t → t <ℤ until → IsTrue b ↔ set t

module _ (set : ℤ → Type 0) (b : Bool) (from until s : ℤ) (same : HoldsFrom set b from until) (le : from ≤ℤ s) (lt : s <ℤ until)
  where
    pub never : (end : ℤ) → end ≤ℤ until → NeverChanges set s end
    never end early = λ t later before.
        let here = same s le lt in
        let there = same t (omega (arith, ints, le, later)) (omega (arith, ints, early, before)) in
        ((λ x. there.0 (here.1 x)), (λ x. here.0 (there.1 x)))

    pub next : (end : ℤ) → until <ℤ end → (IsTrue b ↔ set until → ⊥) → IsNextChange set s end until
    next end within turns =
        let here = same s le lt in
        record {
          later = lt;
          within = within;
          differs = λ k. turns ((λ x. k.0 (here.0 x)), (λ x. here.1 (k.1 x)));
          least = never until (omega (arith, ints));
        }

-- one that holds up to another's start or longer, and then that one
pub both : (set : ℤ → Type 0) (b : Bool) (from middle first until : ℤ) → HoldsFrom set b from first → HoldsFrom set b middle until
    → middle ≤ℤ first → HoldsFrom set b from until
both set b from middle first until one other meet = λ t le lt.
    by_lt_z {P = IsTrue b ↔ set t} t middle
    (λ before. one t le (omega (arith, ints, before, meet)))
    (λ after. other t after lt)

-- a set that does not change
pub lasts : (set : ℤ → Type 0) (b : Bool) (s until : ℤ) → IsTrue b ↔ set s → NeverChanges set s until → HoldsFrom set b s until
lasts set b s until here never = λ t le lt.
    by_lt_z {P = IsTrue b ↔ set t} s t
    (λ later. let same = never t later lt in ((λ x. same.0 (here.0 x)), (λ x. here.1 (same.1 x))))
    (λ early. let is : s ≡ t = omega (arith, ints, le, early) in subst (λ (u : ℤ). IsTrue b ↔ set u) is here)

-- and what was found of it changes there
pub turned_then : (set : ℤ → Type 0) (b : Bool) (s c : ℤ) → IsTrue b ↔ set s → ((set s ↔ set c) → ⊥)
    → IsTrue b ↔ set c → ⊥
turned_then set b s c here differs there = differs ((λ x. there.0 (here.1 x)), (λ x. here.0 (there.1 x)))
