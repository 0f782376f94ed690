-- What two parts of time, one after the other, say of both; and that two sets compare in one way.
use Rattle.std.proofs.Common.{◌≡◌, ◌↔◌, ◌∙◌, arith, refl, ap, subst, Option, Some, None, MatchOption}
use Rattle.std.specs.Prelude.{ℤ, ◌≤ℤ◌, ◌<ℤ◌}
use Rattle.std.proofs.lemmas.Int.{ints, by_lt_z}
use Rattle.gtd_core.specs.declared.domain.Domain.{Domain}
use Rattle.gtd_eval.specs.Membership.{InDomain}
use Rattle.gtd_difference.specs.Difference.{AgreeFrom, IsAlone, IsApart, IsComparison, last_end}
use Rattle.gtd_difference.specs.declared.comparison.Apart.{Apart}
use Rattle.gtd_difference.specs.declared.comparison.Comparison.{Comparison}
use Rattle.gtd_difference.specs.declared.comparison.Comparison.TheVariants.{Same, SameUntil2700, Apart as Differ}
use Rattle.gtd_difference.specs.declared.comparison.Side.{Side}
use Rattle.gtd_difference.specs.declared.comparison.Side.TheVariants.{First, Second}

same-apart : (a b : Apart) → a.second.0 ≡ b.second.0 → a.side ≡ b.side → a ≡ b
same-apart a b e f =
    ap (λ (s : ℤ). let x : Apart = record { second = record { 0 = s }; side = a.side } in x) e
    ∙ ap (λ (s : Side). let x : Apart = record { second = b.second; side = s } in x) f

module _ (P Q : ℤ → Type 0) where
  pub apart-early : (from middle until : ℤ) (a : Apart) → middle ≤ℤ until → IsApart P Q from middle a → IsApart P Q from until a
  apart-early from middle until a le h = record {
    later = h.later;
    within = omega (arith, ints, h.within, le);
    alone = h.alone;
    least = h.least;
  }

  -- what is told of the seconds from one on, and of those from another on at which the first part has not ended
  pub agree-on : (from middle later until last : ℤ) → later ≤ℤ middle → last ≤ℤ until → AgreeFrom P Q from middle
      → AgreeFrom P Q later until → AgreeFrom P Q from last
  agree-on from middle later until last le end h k t late before =
      by_lt_z {P = P t ↔ Q t} t middle
      (λ lt. h t late lt)
      (λ ge. k t (omega (arith, ints, ge, le)) (omega (arith, ints, before, end)))

  pub apart-late : (from middle later until last : ℤ) (a : Apart) → from ≤ℤ later → later ≤ℤ middle → until ≤ℤ last
      → AgreeFrom P Q from middle → IsApart P Q later until a → IsApart P Q from last a
  apart-late from middle later until last a begun le end h k = record {
    later = omega (arith, ints, k.later, begun);
    within = omega (arith, ints, k.within, end);
    alone = k.alone;
    least = agree-on from middle later a.second.0 a.second.0 le (omega (arith, ints)) h k.least;
  }

  -- what is found in a part, if anything
  pub found-some : (from until : ℤ) (o : Option Apart) (a : Apart) → o ≡ Some a
      → MatchOption o (AgreeFrom P Q from until) (IsApart P Q from until) → IsApart P Q from until a
  found-some from until o a e h =
      subst (λ (x : Option Apart). MatchOption x (AgreeFrom P Q from until) (IsApart P Q from until)) e h

  pub found-none : (from until : ℤ) (o : Option Apart) → o ≡ None
      → MatchOption o (AgreeFrom P Q from until) (IsApart P Q from until) → AgreeFrom P Q from until
  found-none from until o e h =
      subst (λ (x : Option Apart). MatchOption x (AgreeFrom P Q from until) (IsApart P Q from until)) e h

  -- a second that one set has alone is not in both or in neither
  pub not-agreed : (side : Side) (s : ℤ) → IsAlone side P Q s → P s ↔ Q s → ⊥
  not-agreed First s a h = a.1 (h.0 a.0)
  not-agreed Second s a h = a.1 (h.1 a.0)

  one-side : (x y : Side) (s t : ℤ) → s ≡ t → IsAlone x P Q s → IsAlone y P Q t → x ≡ y
  one-side First First s t e a b = refl
  one-side First Second s t e a b = absurd (b.1 (rw (← e) a.0))
  one-side Second First s t e a b = absurd (b.1 (rw (← e) a.0))
  one-side Second Second s t e a b = refl

  not-before : (from until : ℤ) (a b : Apart) → IsApart P Q from until a → IsApart P Q from until b
      → a.second.0 <ℤ b.second.0 → ⊥
  not-before from until a b h k lt = not-agreed a.side a.second.0 h.alone (k.least a.second.0 h.later lt)

  pub one-apart : (from until : ℤ) (a b : Apart) → IsApart P Q from until a → IsApart P Q from until b → a ≡ b
  one-apart from until a b h k =
      let e : a.second.0 ≡ b.second.0 =
      by_lt_z {P = a.second.0 ≡ b.second.0} a.second.0 b.second.0 (λ lt. absurd (not-before from until a b h k lt))
      (λ ge. by_lt_z {P = a.second.0 ≡ b.second.0} b.second.0 a.second.0 (λ lt. absurd (not-before from until b a k h lt))
      (λ le. omega (arith, ints, ge, le))) in
      let f : a.side ≡ b.side = one-side a.side b.side a.second.0 b.second.0 e h.alone k.alone in
      same-apart a b e f

-- two domains compare in one way
pub one-comparison : (a b : Domain) (from : ℤ) (x y : Comparison) → IsComparison a b from x → IsComparison a b from y → x ≡ y
one-comparison a b from Same Same h k = refl
one-comparison a b from Same SameUntil2700 h k = absurd (h.0 k.0)
one-comparison a b from Same (Differ d) h k =
    absurd (not-agreed (InDomain a) (InDomain b) d.side d.second.0 k.alone (h.1 d.second.0))
one-comparison a b from SameUntil2700 Same h k = absurd (k.0 h.0)
one-comparison a b from SameUntil2700 SameUntil2700 h k = refl
one-comparison a b from SameUntil2700 (Differ d) h k =
    absurd (not-agreed (InDomain a) (InDomain b) d.side d.second.0 k.alone (h.1 d.second.0 k.later k.within))
one-comparison a b from (Differ c) Same h k =
    absurd (not-agreed (InDomain a) (InDomain b) c.side c.second.0 h.alone (k.1 c.second.0))
one-comparison a b from (Differ c) SameUntil2700 h k =
    absurd (not-agreed (InDomain a) (InDomain b) c.side c.second.0 h.alone (k.1 c.second.0 h.later h.within))
one-comparison a b from (Differ c) (Differ d) h k = ap Differ (one-apart (InDomain a) (InDomain b) from last_end c d h k)
