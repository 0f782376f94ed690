-- Hours of the same text with the same month days are of the same rules.
use Rattle.std.proofs.Common.{◌∙◌, ap, sym, ℕ, List, [], ◌∷◌, Option, Some, None}
use Rattle.gtd_hours.specs.declared.hours.Hours.{Hours}
use Rattle.gtd_hours.specs.declared.hours.Rule.{Rule}
use Rattle.gtd_hours_text.specs.facts.OneMeaning.{same_rules}
use Rattle.gtd_hours_text.specs.facts.SameRules.{SameRule, SameRules}
use Rattle.gtd_hours_dated.specs.Dated.{AreDatedRules, IsDatedHours, IsDatedRule, More, with_dates}

same_dated : (more : More) (a b x y : Rule) → SameRule a b → IsDatedRule more a x → IsDatedRule more b y
    → SameRule x y
same_dated more a b x y same p q = record {
  kinds = p.kinds ∙ ap (with_dates more) same.kinds ∙ sym q.kinds;
  times = ap (λ t. t.items) p.times ∙ same.times ∙ sym (ap (λ t. t.items) q.times);
  modifier = p.modifier ∙ same.modifier ∙ sym q.modifier;
  link = p.link ∙ same.link ∙ sym q.link;
}

all_dated : (more : More) (ps qs xs ys : List Rule) → SameRules ps qs → AreDatedRules more ps xs
    → AreDatedRules more qs ys → SameRules xs ys
all_dated more [] [] [] [] same p q = tt
all_dated more [] [] [] (y ∷ ys) same p q = absurd q
all_dated more [] [] (x ∷ xs) ys same p q = absurd p
all_dated more [] (b ∷ qs) xs ys same p q = absurd same
all_dated more (a ∷ ps) [] xs ys same p q = absurd same
all_dated more (a ∷ ps) (b ∷ qs) [] ys same p q = absurd p
all_dated more (a ∷ ps) (b ∷ qs) (x ∷ xs) [] same p q = absurd q
all_dated more (a ∷ ps) (b ∷ qs) (x ∷ xs) (y ∷ ys) same p q =
    (same_dated more a b x y same.0 p.0 q.0, all_dated more ps qs xs ys same.1 p.1 q.1)

-- the rules of hours that a text stands for with these month days
pub dated_rules : (text : List ℕ) (more : Option More) (one other : Hours) → IsDatedHours text more one
    → IsDatedHours text more other → SameRules one.rules.items other.rules.items
dated_rules text None one other p q = same_rules text one other p q
dated_rules text (Some more) one other p q =
    all_dated more p.0.rules.items q.0.rules.items one.rules.items other.rules.items
    (same_rules text p.0 q.0 p.1 q.1) p.2 q.2
