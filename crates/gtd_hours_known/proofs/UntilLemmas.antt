-- Hours whose years end with the known ones: one rule more, and hours of the same rules.
use Rattle.std.proofs.Common.{◌≡◌, ◌∙◌, ap, sym, subst, ℕ, Bool, List, [], ◌∷◌, ◌++◌, Option, Some, None}
use Rattle.gtd_hours.specs.declared.hours.Hours.{Hours}
use Rattle.gtd_hours.specs.declared.hours.Rule.{Rule}
use Rattle.gtd_hours_holidays.specs.declared.known_years.KnownYears.{KnownYears}
use Rattle.gtd_hours_known.specs.Until.{AreHoursUntil, AreRulesUntil, IsRuleUntil, kinds_until}
use Rattle.gtd_hours_text.specs.facts.SameRules.{SameRule, SameRules}

-- one rule more
pub until_more : (known : KnownYears) (marks : List Bool) (plain made : List Rule) (p m : Rule)
    → AreRulesUntil known marks plain made → IsRuleUntil known marks p m
    → AreRulesUntil known marks (plain ++ p ∷ []) (made ++ m ∷ [])
until_more known marks [] [] p m are is = (is, tt)
until_more known marks (q ∷ plain) (r ∷ made) p m are is = (are.0, until_more known marks plain made p m are.1 is)
until_more known marks [] (r ∷ made) p m are is = absurd are
until_more known marks (q ∷ plain) [] p m are is = absurd are

-- ---- hours of the same rules

rule_until : (known : KnownYears) (marks : List Bool) (a b x y : Rule) → SameRule a b → IsRuleUntil known marks a x
    → IsRuleUntil known marks b y → SameRule x y
rule_until known marks a b x y same p q = record {
  kinds = p.kinds ∙ ap (kinds_until known marks) same.kinds ∙ sym q.kinds;
  times = ap (λ t. t.items) p.times ∙ same.times ∙ sym (ap (λ t. t.items) q.times);
  modifier = p.modifier ∙ same.modifier ∙ sym q.modifier;
  link = p.link ∙ same.link ∙ sym q.link;
}

rules_until : (known : KnownYears) (marks : List Bool) (ps qs xs ys : List Rule) → SameRules ps qs
    → AreRulesUntil known marks ps xs → AreRulesUntil known marks qs ys → SameRules xs ys
rules_until known marks [] [] [] [] same p q = tt
rules_until known marks [] [] [] (y ∷ ys) same p q = absurd q
rules_until known marks [] [] (x ∷ xs) ys same p q = absurd p
rules_until known marks [] (b ∷ qs) xs ys same p q = absurd same
rules_until known marks (a ∷ ps) [] xs ys same p q = absurd same
rules_until known marks (a ∷ ps) (b ∷ qs) [] ys same p q = absurd p
rules_until known marks (a ∷ ps) (b ∷ qs) (x ∷ xs) [] same p q = absurd q
rules_until known marks (a ∷ ps) (b ∷ qs) (x ∷ xs) (y ∷ ys) same p q =
    (rule_until known marks a b x y same.0 p.0 q.0, rules_until known marks ps qs xs ys same.1 p.1 q.1)

same_some : {A : Type 0} (a b : A) → Some a ≡ Some b → a ≡ b
same_some a b e = cc

pub hours_until : (years : Option KnownYears) (place : Option ℕ) (marks : List Bool) (a b x y : Hours)
    → SameRules a.rules.items b.rules.items → AreHoursUntil years place marks a x → AreHoursUntil years place marks b y
    → SameRules x.rules.items y.rules.items
hours_until years None marks a b x y same p q =
    subst (λ (h : Hours). SameRules h.rules.items y.rules.items) (sym p)
    (subst (λ (h : Hours). SameRules a.rules.items h.rules.items) (sym q) same)
hours_until years (Some place) marks a b x y same p q =
    rules_until p.0 marks a.rules.items b.rules.items x.rules.items y.rules.items same p.2
    (subst (λ (k : KnownYears). AreRulesUntil k marks b.rules.items y.rules.items) (same_some q.0 p.0 (sym q.1 ∙ p.1)) q.2)
