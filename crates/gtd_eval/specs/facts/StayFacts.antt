-- How long what an operator makes of two sets stays as it is.
use Rattle.std.proofs.Common.{sym, refl, subst, arith, inl, inr, ◌↔◌, Bool, true, false}
use Rattle.std.specs.Prelude.{ℤ, ◌<ℤ◌, ◌≤ℤ◌, IsTrue}
use Rattle.std.proofs.lemmas.Int.{ints, by_lt_z}
use Rattle.gtd_core.specs.declared.domain.Op.{Op}
use Rattle.gtd_core.specs.declared.domain.Op.TheVariants.{Union, Meet, Minus}
use Rattle.gtd_spans.specs.Change.{SameAt}
use Rattle.gtd_spans.specs.Normal.{Combined, combined}
use Rattle.gtd_spans.specs.facts.NormalFor.{combined-both}
use Rattle.gtd_eval.specs.Stays.{ComesBefore, IsJoined, IsStay, left_decides, right_decides}
use Rattle.gtd_eval.specs.declared.stay.Stay.{Stay}

-- ---- the end

both_after : (a b : Bool) (s l r : ℤ) → s <ℤ l → s <ℤ r → ComesBefore a b l r s
both_after true true s l r p q = inl p
both_after true false s l r p q = p
both_after false true s l r p q = q
both_after false false s l r p q = (p, q)

not_past : (a b : Bool) (last l r : ℤ) → l ≤ℤ last → r ≤ℤ last → ComesBefore a b l r last → ⊥
not_past true true last l r p q (inl h) = omega (arith, ints, p, h)
not_past true true last l r p q (inr h) = omega (arith, ints, q, h)
not_past true false last l r p q h = omega (arith, ints, p, h)
not_past false true last l r p q h = omega (arith, ints, q, h)
not_past false false last l r p q h = omega (arith, ints, p, h.0)

-- what comes before the end of both sides comes before the end of what is made of them
pub at_least : (op : Op) (left right stay : Stay) (u : ℤ) → IsJoined op left right stay → u ≤ℤ left.until.0 → u ≤ℤ right.until.0
    → u ≤ℤ stay.until.0
at_least op left right stay u j p q =
    by_lt_z {P = u ≤ℤ stay.until.0} stay.until.0 u
    (λ lt. let h = (j.until stay.until.0).1 (both_after (left_decides op left.holds) (right_decides op right.holds) stay.until.0
    left.until.0 right.until.0 (omega (arith, ints, lt, p)) (omega (arith, ints, lt, q))) in absurd (omega (arith, ints, h)))
    (λ ge. ge)

-- ---- the set

combined_is : (op : Op) (a b : Bool) (P Q : Type 0) → IsTrue a ↔ P → IsTrue b ↔ Q → IsTrue (combined op a b) ↔ Combined op P Q
combined_is Union true b P Q p q = ((λ h. inl (p.0 refl)), (λ h. refl))
combined_is Union false b P Q p q = (
  (λ h. inr (q.0 h)),
  (λ h. elim h [ inl x ↦ absurd (let t = p.1 x in cc) | inr y ↦ q.1 y ]),
)
combined_is Meet true b P Q p q = ((λ h. (p.0 refl, q.0 h)), (λ h. q.1 h.1))
combined_is Meet false b P Q p q = ((λ h. absurd (cc)), (λ h. p.1 h.0))
combined_is Minus true true P Q p q = ((λ h. absurd (cc)), (λ h. absurd (h.1 (q.0 refl))))
combined_is Minus true false P Q p q = ((λ h. (p.0 refl, (λ y. absurd (let t = q.1 y in cc)))), (λ h. refl))
combined_is Minus false b P Q p q = ((λ h. absurd (cc)), (λ h. p.1 h.0))

-- a side that decides alone
left_alone : (op : Op) (a : Bool) (P Q R S : Type 0) → IsTrue a ↔ P → P ↔ R → IsTrue (left_decides op a)
    → Combined op P Q ↔ Combined op R S
left_alone Union true P Q R S p e d = ((λ h. inl (e.0 (p.0 refl))), (λ h. inl (p.0 refl)))
left_alone Union false P Q R S p e d = absurd (cc)
left_alone Meet true P Q R S p e d = absurd (cc)
left_alone Meet false P Q R S p e d =
    ((λ h. absurd (let t = p.1 h.0 in cc)), (λ h. absurd (let t = p.1 (e.1 h.0) in cc)))
left_alone Minus true P Q R S p e d = absurd (cc)
left_alone Minus false P Q R S p e d =
    ((λ h. absurd (let t = p.1 h.0 in cc)), (λ h. absurd (let t = p.1 (e.1 h.0) in cc)))

right_alone : (op : Op) (b : Bool) (P Q R S : Type 0) → IsTrue b ↔ Q → Q ↔ S → IsTrue (right_decides op b)
    → Combined op P Q ↔ Combined op R S
right_alone Union true P Q R S q f d = ((λ h. inr (f.0 (q.0 refl))), (λ h. inr (q.0 refl)))
right_alone Union false P Q R S q f d = absurd (cc)
right_alone Meet true P Q R S q f d = absurd (cc)
right_alone Meet false P Q R S q f d =
    ((λ h. absurd (let t = q.1 h.1 in cc)), (λ h. absurd (let t = q.1 (f.1 h.1) in cc)))
right_alone Minus true P Q R S q f d = ((λ h. absurd (h.1 (q.0 refl))), (λ h. absurd (h.1 (f.0 (q.0 refl)))))
right_alone Minus false P Q R S q f d = absurd (cc)

by_end : (a b : Bool) (l r t : ℤ) (X : Type 0) → ComesBefore a b l r t → (IsTrue a → t <ℤ l → X) → (IsTrue b → t <ℤ r → X)
    → (t <ℤ l → t <ℤ r → X) → X
by_end true true l r t X (inl h) f g k = f refl h
by_end true true l r t X (inr h) f g k = g refl h
by_end true false l r t X h f g k = f refl h
by_end false true l r t X h f g k = g refl h
by_end false false l r t X h f g k = k h.0 h.1

-- what an operator makes of two sets stays as it is while what decides does
pub joined_stays : (op : Op) (P Q : ℤ → Type 0) (s last : ℤ) (left right stay : Stay) → IsStay P s last left
    → IsStay Q s last right → IsJoined op left right stay → IsStay (λ t. Combined op (P t) (Q t)) s last stay
joined_stays op P Q s last left right stay p q j =
    let a : Bool = left_decides op left.holds in
    let b : Bool = right_decides op right.holds in
    record {
      holds = subst (λ (x : Bool). IsTrue x ↔ Combined op (P s) (Q s)) (sym j.holds)
          (combined_is op left.holds right.holds (P s) (Q s) p.holds q.holds);
      later = (j.until s).1 (both_after a b s left.until.0 right.until.0 p.later q.later);
      within = by_lt_z {P = stay.until.0 ≤ℤ last} last stay.until.0
          (λ lt. absurd (not_past a b last left.until.0 right.until.0 p.within q.within ((j.until last).0 lt)))
          (λ ge. ge);
      same = λ t after before.
          by_end a b left.until.0 right.until.0 t (SameAt (λ (t : ℤ). Combined op (P t) (Q t)) s t) ((j.until t).0 before)
          (λ d lt. left_alone op left.holds (P s) (Q s) (P t) (Q t) p.holds (p.same t after lt) d)
          (λ d lt. right_alone op right.holds (P s) (Q s) (P t) (Q t) q.holds (q.same t after lt) d)
          (λ lt also. combined-both op (P s) (Q s) (P t) (Q t) (p.same t after lt) (q.same t after also));
    }
