-- The own texts of rules are hours, or one of them has one first fault.
use Rattle.std.proofs.Common.{◌≡◌, sym, ap, subst, inl, inr, List, [], ◌∷◌, ℕ, map}
use Rattle.gtd_hours_moves.specs.Terms.{Piece}
use Rattle.gtd_hours_grammar.specs.Faults.{IsFirstFault, IsHoursText}
use Rattle.gtd_hours_grammar.specs.declared.fault.HoursFault.{HoursFault}
use Rattle.gtd_hours_holiday_rules.specs.Rules.{Said, said_by}
use Rattle.gtd_hours_holiday_rules.specs.declared.rules.HolidayRule.{HolidayRule}
use Rattle.gtd_hours_known.specs.Rules.{AreAllStrict, IsRuleFault}
use Rattle.gtd_hours_loose.specs.Reading.{IsStrict}
use Rattle.gtd_hours_options.proofs.OneRules.{one_head, one_tail}

pub own_text : (x y : HolidayRule) (xs ys : List HolidayRule) → map said_by (x ∷ xs) ≡ map said_by (y ∷ ys)
    → x.text.items ≡ y.text.items
own_text x y xs ys e = ap (λ (s : Said). s.text) (one_head (said_by x) (said_by y) (map said_by xs) (map said_by ys) e)

module _ (first_fault : (text : List ℕ) (one other : HoursFault) → IsFirstFault text one → IsFirstFault text other → one ≡ other)
    (faultless : (text : List ℕ) (p : List Piece) (bad : HoursFault) → IsHoursText text p → IsFirstFault text bad → ⊥) where
  pub sound_text : (text other : List ℕ) (bad : HoursFault) → text ≡ other → IsStrict text → IsFirstFault other bad → ⊥
  sound_text text other bad same is q =
      faultless text is.0 bad is.1 (subst (λ (t : List ℕ). IsFirstFault t bad) (sym same) q)

  pub one_text_fault : (text other : List ℕ) (a b : HoursFault) → text ≡ other → IsFirstFault text a → IsFirstFault other b
      → a ≡ b
  one_text_fault text other a b same p q =
      first_fault other a b (subst (λ (t : List ℕ). IsFirstFault t a) same p) q

  pub sound_rules : (xs ys : List HolidayRule) (bad : HoursFault) → map said_by xs ≡ map said_by ys → AreAllStrict xs
      → IsRuleFault ys bad → ⊥
  sound_rules [] [] bad e p q = q
  sound_rules [] (y ∷ ys) bad e p q = absurd cc
  sound_rules (x ∷ xs) [] bad e p q = q
  sound_rules (x ∷ xs) (y ∷ ys) bad e p (inl q) =
      sound_text x.text.items y.text.items bad (own_text x y xs ys e) p.0 q
  sound_rules (x ∷ xs) (y ∷ ys) bad e p (inr q) =
      sound_rules xs ys bad (one_tail (said_by x) (said_by y) (map said_by xs) (map said_by ys) e) p.1 q.1

  pub one_rule_fault : (xs ys : List HolidayRule) (a b : HoursFault) → map said_by xs ≡ map said_by ys → IsRuleFault xs a
      → IsRuleFault ys b → a ≡ b
  one_rule_fault [] ys a b e p q = absurd p
  one_rule_fault (x ∷ xs) [] a b e p q = absurd q
  one_rule_fault (x ∷ xs) (y ∷ ys) a b e (inl p) (inl q) =
      one_text_fault x.text.items y.text.items a b (own_text x y xs ys e) p q
  one_rule_fault (x ∷ xs) (y ∷ ys) a b e (inl p) (inr q) =
      absurd (sound_text y.text.items x.text.items a (sym (own_text x y xs ys e)) q.0 p)
  one_rule_fault (x ∷ xs) (y ∷ ys) a b e (inr p) (inl q) =
      absurd (sound_text x.text.items y.text.items b (own_text x y xs ys e) p.0 q)
  one_rule_fault (x ∷ xs) (y ∷ ys) a b e (inr p) (inr q) =
      one_rule_fault xs ys a b (one_tail (said_by x) (said_by y) (map said_by xs) (map said_by ys) e) p.1 q.1
