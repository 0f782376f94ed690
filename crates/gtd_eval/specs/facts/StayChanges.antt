-- From one stay of a set to the next, and the stays of what is outside it.
use Rattle.std.proofs.Common.{◌≡◌, sym, refl, subst, arith, ◌↔◌, Bool, true, false}
use Rattle.std.specs.Prelude.{ℤ, ◌<ℤ◌, IsTrue, not}
use Rattle.std.proofs.lemmas.Int.{ints, by_lt_z}
use Rattle.gtd_eval.specs.Stays.{IsStay}
use Rattle.gtd_eval.specs.declared.stay.Stay.{Stay}
use Rattle.gtd_spans.specs.Change.{IsNextChange, NeverChanges, SameAt}

module _ (set : ℤ → Type 0) (s last : ℤ) where
  told : (a b : Bool) (P Q : Type 0) → IsTrue a ↔ P → IsTrue b ↔ Q → a ≡ b → P ↔ Q
  told a b P Q p q e = (
    (λ h. q.0 (subst (λ (x : Bool). IsTrue x) e (p.1 h))),
    (λ h. p.0 (subst (λ (x : Bool). IsTrue x) (sym e) (q.1 h))),
  )

  -- nothing changes in the next stay, if the set has its second exactly if it has the first
  pub next_stays : (first stay : Stay) (there : Bool) (at : ℤ) → IsStay set s last first → IsStay set at last stay
      → IsTrue there ↔ set at → there ≡ first.holds → s <ℤ at → NeverChanges set s at → NeverChanges set s stay.until.0
  next_stays first stay there at is also tells same later never = λ t after before.
      by_lt_z {P = SameAt set s t} t at
      (λ lt. never t after lt)
      (λ ge. trans t (by_lt_z {P = SameAt set at t} at t (λ lt. also.same t lt before)
      (λ le. let e : at ≡ t = omega (arith, ints, ge, le) in subst (λ (u : ℤ). SameAt set at u) e ((λ h. h), (λ h. h)))))
    where
      begins : SameAt set s at
      begins = told first.holds there (set s) (set at) is.holds tells (sym same)

      trans : (t : ℤ) → SameAt set at t → SameAt set s t
      trans t q = ((λ h. q.0 (begins.0 h)), (λ h. begins.1 (q.1 h)))

  decided : (a b : Bool) (P Q : Type 0) → IsTrue a ↔ P → IsTrue b ↔ Q → (b ≡ a → ⊥) → (P ↔ Q) → ⊥
  decided true true P Q p q not e = not refl
  decided false false P Q p q not e = not refl
  decided true false P Q p q not e = let t = q.1 (e.0 (p.0 refl)) in cc
  decided false true P Q p q not e = let t = p.1 (e.1 (q.0 refl)) in cc

  -- the set changes where it has the second, but not the first, or the other way round
  pub changes_at : (first : Stay) (there : Bool) (at : ℤ) → IsStay set s last first → IsTrue there ↔ set at
      → (there ≡ first.holds → ⊥) → s <ℤ at → at <ℤ last → NeverChanges set s at → IsNextChange set s last at
  changes_at first there at is tells differ later within never = record {
    later = later;
    within = within;
    differs = λ e. decided first.holds there (set s) (set at) is.holds tells differ e;
    least = never;
  }

-- whether a second is outside
pub tells_outside : (holds : Bool) (P : Type 0) → IsTrue holds ↔ P → IsTrue (not holds) ↔ (P → ⊥)
tells_outside true P p = ((λ h. absurd (cc)), (λ out. absurd (out (p.0 refl))))
tells_outside false P p = ((λ h q. absurd (let t = p.1 q in cc)), (λ out. refl))

-- what is outside a set stays as it is as long as the set does
pub stays_outside : (set : ℤ → Type 0) (s last : ℤ) (stay : Stay) → IsStay set s last stay
    → IsStay (λ t. set t → ⊥) s last (record { holds = not stay.holds; until = stay.until })
stays_outside set s last stay is = record {
  holds = tells_outside stay.holds (set s) is.holds;
  later = is.later;
  within = is.within;
  same = λ t after before.
      let same = is.same t after before in ((λ out h. out (same.1 h)), (λ out h. out (same.0 h)));
}
