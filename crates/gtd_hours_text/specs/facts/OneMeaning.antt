-- The same rules mean the same: they are open at the same seconds, cost as many basic domains and are written the same.
use Rattle.std.proofs.Common.{◌≡◌, ◌↔◌, ℕ, ◌+◌, ◌==◌, ℤ, List, [], ◌∷◌, ◌++◌, refl, sym, ap, subst, ◌∙◌, inl, inr}
use Rattle.std.specs.Prelude.{◌&&◌, ◌||◌, codes, if◌then◌else◌, max, not}
use Rattle.gtd_hours.specs.Cost.{closed_cost_by, cost_after, days_cost, ends_late, falls_back, hours_cost, kinds_cost}
use Rattle.gtd_hours.specs.Cost.{open_cost_by, rule_cost, selectors_cost, some_falls_back, spans_cost, unsaid_cost}
use Rattle.gtd_hours.specs.Opening.{EachHolds, InSpans, IsClosedBy, IsOnMatch, IsOpen, IsOpenAfter, IsOpenBy, IsTimeOn}
use Rattle.gtd_hours.specs.Opening.{Matches, SomeHolds}
use Rattle.gtd_hours.specs.Written.{hours_text, is_some_kind, kind_text, kinds_text, link_text, modifier_text, more_rules_text}
use Rattle.gtd_hours.specs.Written.{goes_into, is_also, is_some_time, needs_word, rule_text, rules_text, spans_text, times_text}
use Rattle.gtd_hours.specs.declared.hours.Hours.{Hours}
use Rattle.gtd_hours.specs.declared.hours.Kind.{Kind}
use Rattle.gtd_hours.specs.declared.hours.Link.{Link}
use Rattle.gtd_hours.specs.declared.hours.Link.TheVariants as link
use Rattle.gtd_hours.specs.declared.hours.Modifier.{Modifier}
use Rattle.gtd_hours.specs.declared.hours.Modifier.TheVariants as modifier
use Rattle.gtd_hours.specs.declared.hours.Rule.{Rule}
use Rattle.gtd_hours.specs.declared.hours.Selector.{Selector}
use Rattle.gtd_hours.specs.declared.hours.TimeRange.{TimeRange}
use Rattle.gtd_hours_parts.specs.declared.piece.Piece.{Piece}
use Rattle.gtd_hours_grammar.specs.facts.OneReading.{one_reading}
use Rattle.gtd_hours_text.specs.Standing.{AreRules, StandsFor, selectors}
use Rattle.gtd_hours_text.specs.facts.SameRules.{SameRule, SameRules, one_rules}

-- the rules of hours that a text stands for
pub same_rules : (text : List ℕ) (one other : Hours) → StandsFor text one → StandsFor text other
    → SameRules one.rules.items other.rules.items
same_rules text one other h k =
    one_rules link.Instead h.p one.rules.items other.rules.items h.rules
    (subst (λ (p : List Piece). AreRules link.Instead p other.rules.items) (one_reading text k.p h.p k.is h.is) k.rules)

same_back : (one other : Rule) → SameRule one other → SameRule other one
same_back one other same = record {
  kinds = sym same.kinds;
  times = sym same.times;
  modifier = sym same.modifier;
  link = sym same.link;
}

-- ---- when they are open

each_holds : (a b : List Kind) (n : ℤ) (f : _) → selectors a ≡ selectors b → EachHolds a n f → EachHolds b n f
each_holds [] [] n f e h = h
each_holds [] (y ∷ b) n f e h = absurd cc
each_holds (x ∷ a) [] n f e h = absurd cc
each_holds (x ∷ a) (y ∷ b) n f e h =
    let head : x.selectors.items ≡ y.selectors.items = cc in
    let tail : selectors a ≡ selectors b = cc in
    (subst (λ (l : List Selector). SomeHolds l n f) head h.0, each_holds a b n f tail h.1)

matches : (a b : List Kind) (n : ℤ) → selectors a ≡ selectors b → Matches a n → Matches b n
matches a b n e h = (h.0, h.1, each_holds a b n h.0 e h.2)

in_spans : (one other : Rule) (s : ℤ) → SameRule one other → InSpans one.kinds.items one.times.items s
    → InSpans other.kinds.items other.times.items s
in_spans one other s same h = (
  h.0,
  matches one.kinds.items other.kinds.items h.0 same.kinds h.1,
  subst (λ (l : List TimeRange). IsTimeOn l h.0 s) same.times h.2,
)

is_on_match : (one other : Rule) (s : ℤ) → SameRule one other → IsOnMatch one.kinds.items s → IsOnMatch other.kinds.items s
is_on_match one other s same h = (h.0, h.1, matches one.kinds.items other.kinds.items h.0 same.kinds h.2)

-- what is open after a rule
open_by : (m : Modifier) (l : Link) (one other : Rule) (A B C D : Type 0) (s : ℤ) → SameRule one other → (A ↔ B) → (C ↔ D)
    → IsOpenBy m l one A C s → IsOpenBy m l other B D s
open_by modifier.Open link.Instead one other A B C D s same go shut h = elim h [
  | inl before ↦ inl (go.0 before.0, λ on. before.1 (is_on_match other one s (same_back one other same) on))
  | inr spans ↦ inr (in_spans one other s same spans)
]
open_by modifier.Open link.Also one other A B C D s same go shut h =
    elim h [ inl before ↦ inl (go.0 before) | inr spans ↦ inr (in_spans one other s same spans) ]
open_by modifier.Open link.Fallback one other A B C D s same go shut h = elim h [
  | inl before ↦ inl (go.0 before)
  | inr spans ↦ inr (in_spans one other s same spans.0, λ was. spans.1 (shut.1 was))
]
open_by modifier.Closed link.Instead one other A B C D s same go shut h =
    (go.0 h.0, λ spans. h.1 (in_spans other one s (same_back one other same) spans))
open_by modifier.Closed link.Also one other A B C D s same go shut h =
    (go.0 h.0, λ spans. h.1 (in_spans other one s (same_back one other same) spans))
open_by modifier.Closed link.Fallback one other A B C D s same go shut h = go.0 h

-- and what is said to be closed
closed_by : (m : Modifier) (l : Link) (one other : Rule) (A B C D : Type 0) (s : ℤ) → SameRule one other → (A ↔ B) → (C ↔ D)
    → IsClosedBy m l one A C s → IsClosedBy m l other B D s
closed_by modifier.Open link.Instead one other A B C D s same go shut h = (
  shut.0 h.0,
  λ on. h.1 (is_on_match other one s (same_back one other same) on),
  λ spans. h.2 (in_spans other one s (same_back one other same) spans),
)
closed_by modifier.Open link.Also one other A B C D s same go shut h =
    (shut.0 h.0, λ spans. h.1 (in_spans other one s (same_back one other same) spans))
closed_by modifier.Open link.Fallback one other A B C D s same go shut h = shut.0 h
closed_by modifier.Closed link.Instead one other A B C D s same go shut h =
    elim h [ inl before ↦ inl (shut.0 before) | inr spans ↦ inr (in_spans one other s same spans) ]
closed_by modifier.Closed link.Also one other A B C D s same go shut h =
    elim h [ inl before ↦ inl (shut.0 before) | inr spans ↦ inr (in_spans one other s same spans) ]
closed_by modifier.Closed link.Fallback one other A B C D s same go shut h = elim h [
  | inl before ↦ inl (shut.0 before)
  | inr spans ↦ inr (in_spans one other s same spans.0, λ was. spans.1 (go.1 was))
]

open_by_rule : (x y : Rule) (A B C D : Type 0) (s : ℤ) → SameRule x y → (A ↔ B) → (C ↔ D)
    → IsOpenBy x.modifier x.link x A C s → IsOpenBy y.modifier y.link y B D s
open_by_rule x y A B C D s same go shut h =
    subst (λ (m : Modifier). IsOpenBy m y.link y B D s) same.modifier
    (subst (λ (l : Link). IsOpenBy x.modifier l y B D s) same.link
    (open_by x.modifier x.link x y A B C D s same go shut h))

closed_by_rule : (x y : Rule) (A B C D : Type 0) (s : ℤ) → SameRule x y → (A ↔ B) → (C ↔ D)
    → IsClosedBy x.modifier x.link x A C s → IsClosedBy y.modifier y.link y B D s
closed_by_rule x y A B C D s same go shut h =
    subst (λ (m : Modifier). IsClosedBy m y.link y B D s) same.modifier
    (subst (λ (l : Link). IsClosedBy x.modifier l y B D s) same.link
    (closed_by x.modifier x.link x y A B C D s same go shut h))

back : (A B : Type 0) → (A ↔ B) → B ↔ A
back A B go = (go.1, go.0)

open_after : (xs ys : List Rule) (A B C D : Type 0) (s : ℤ) → SameRules xs ys → (A ↔ B) → (C ↔ D)
    → IsOpenAfter xs A C s → IsOpenAfter ys B D s
open_after [] [] A B C D s same go shut h = go.0 h
open_after [] (y ∷ ys) A B C D s same go shut h = absurd same
open_after (x ∷ xs) [] A B C D s same go shut h = absurd same
open_after (x ∷ xs) (y ∷ ys) A B C D s same go shut h =
    let turned = same_back x y same.0 in
    open_after xs ys (IsOpenBy x.modifier x.link x A C s) (IsOpenBy y.modifier y.link y B D s)
    (IsClosedBy x.modifier x.link x A C s) (IsClosedBy y.modifier y.link y B D s) s same.1
    (open_by_rule x y A B C D s same.0 go shut, open_by_rule y x B A D C s turned (back A B go) (back C D shut))
    (closed_by_rule x y A B C D s same.0 go shut, closed_by_rule y x B A D C s turned (back A B go) (back C D shut)) h

same_all_back : (xs ys : List Rule) → SameRules xs ys → SameRules ys xs
same_all_back [] [] same = same
same_all_back [] (y ∷ ys) same = absurd same
same_all_back (x ∷ xs) [] same = absurd same
same_all_back (x ∷ xs) (y ∷ ys) same = (same_back x y same.0, same_all_back xs ys same.1)

opens : (one other : Hours) → SameRules one.rules.items other.rules.items → (s : ℤ) → IsOpen one s → IsOpen other s
opens one other same s =
    open_after one.rules.items other.rules.items ⊥ ⊥ ⊥ ⊥ s same (λ no. no, λ no. no) (λ no. no, λ no. no)

-- hours of the same rules are open at the same seconds
pub same_opening : (one other : Hours) → SameRules one.rules.items other.rules.items
    → (s : ℤ) → IsOpen one s ↔ IsOpen other s
same_opening one other same s =
    (opens one other same s, opens other one (same_all_back one.rules.items other.rules.items same) s)

pub one_opening : (text : List ℕ) (one other : Hours) → StandsFor text one → StandsFor text other
    → (s : ℤ) → IsOpen one s ↔ IsOpen other s
one_opening text one other h k = same_opening one other (same_rules text one other h k)

-- ---- what they cost

kinds_cost_same : (a b : List Kind) → selectors a ≡ selectors b → kinds_cost a ≡ kinds_cost b
kinds_cost_same [] [] e = refl
kinds_cost_same [] (y ∷ b) e = absurd cc
kinds_cost_same (x ∷ a) [] e = absurd cc
kinds_cost_same (x ∷ a) (y ∷ b) e =
    let head : x.selectors.items ≡ y.selectors.items = cc in
    let tail : selectors a ≡ selectors b = cc in
    let rest = kinds_cost_same a b tail in
    λ i. max 1 (selectors_cost (head i)) + rest i

days_cost_same : (one other : Rule) → SameRule one other → days_cost one.kinds.items ≡ days_cost other.kinds.items
days_cost_same one other same = ap (max 1) (kinds_cost_same one.kinds.items other.kinds.items same.kinds)

rule_cost_same : (one other : Rule) → SameRule one other → rule_cost one ≡ rule_cost other
rule_cost_same one other same = λ i. spans_cost (days_cost_same one other same i) (same.times i)

unsaid_cost_same : (one other : Rule) → SameRule one other → unsaid_cost one ≡ unsaid_cost other
unsaid_cost_same one other same =
    let days = days_cost_same one other same in
    let all = rule_cost_same one other same in
    λ i. days i + (if ends_late (same.times i) then all i else 0)

open_cost_by_same : (m : Modifier) (l : Link) (one other : Rule) (n c : ℕ) → SameRule one other
    → open_cost_by m l one n c ≡ open_cost_by m l other n c
open_cost_by_same modifier.Open link.Instead one other n c same =
    let days = days_cost_same one other same in
    let all = rule_cost_same one other same in
    λ i. if n == 0 then all i else n + days i + all i
open_cost_by_same modifier.Open link.Also one other n c same = ap (λ (k : ℕ). n + k) (rule_cost_same one other same)
open_cost_by_same modifier.Open link.Fallback one other n c same = ap (λ (k : ℕ). n + k + c) (rule_cost_same one other same)
open_cost_by_same modifier.Closed link.Instead one other n c same =
    ap (λ (k : ℕ). if n == 0 then 0 else n + k) (rule_cost_same one other same)
open_cost_by_same modifier.Closed link.Also one other n c same =
    ap (λ (k : ℕ). if n == 0 then 0 else n + k) (rule_cost_same one other same)
open_cost_by_same modifier.Closed link.Fallback one other n c same = refl

closed_cost_by_same : (m : Modifier) (l : Link) (one other : Rule) (n c : ℕ) → SameRule one other
    → closed_cost_by m l one n c ≡ closed_cost_by m l other n c
closed_cost_by_same modifier.Open link.Instead one other n c same =
    ap (λ (k : ℕ). if c == 0 then 0 else c + k) (unsaid_cost_same one other same)
closed_cost_by_same modifier.Open link.Also one other n c same =
    ap (λ (k : ℕ). if c == 0 then 0 else c + k) (rule_cost_same one other same)
closed_cost_by_same modifier.Open link.Fallback one other n c same = refl
closed_cost_by_same modifier.Closed link.Instead one other n c same = ap (λ (k : ℕ). c + k) (rule_cost_same one other same)
closed_cost_by_same modifier.Closed link.Also one other n c same = ap (λ (k : ℕ). c + k) (rule_cost_same one other same)
closed_cost_by_same modifier.Closed link.Fallback one other n c same =
    ap (λ (k : ℕ). c + k + n) (rule_cost_same one other same)

some_falls_back_same : (xs ys : List Rule) → SameRules xs ys → some_falls_back xs ≡ some_falls_back ys
some_falls_back_same [] [] same = refl
some_falls_back_same [] (y ∷ ys) same = absurd same
some_falls_back_same (x ∷ xs) [] same = absurd same
some_falls_back_same (x ∷ xs) (y ∷ ys) same =
    let rest = some_falls_back_same xs ys same.1 in
    λ i. falls_back (same.0.modifier i) (same.0.link i) || rest i

cost_after_same : (xs ys : List Rule) (n c : ℕ) → SameRules xs ys → cost_after xs n c ≡ cost_after ys n c
cost_after_same [] [] n c same = refl
cost_after_same [] (y ∷ ys) n c same = absurd same
cost_after_same (x ∷ xs) [] n c same = absurd same
cost_after_same (x ∷ xs) (y ∷ ys) n c same =
    let opens = open_cost_by_same x.modifier x.link x y n c same.0
    ∙ (λ i. open_cost_by (same.0.modifier i) (same.0.link i) y n c) in
    let shuts = closed_cost_by_same x.modifier x.link x y n c same.0
    ∙ (λ i. closed_cost_by (same.0.modifier i) (same.0.link i) y n c) in
    let falls = some_falls_back_same xs ys same.1 in
    cost_after_same xs ys (open_cost_by x.modifier x.link x n c)
    (if some_falls_back xs then closed_cost_by x.modifier x.link x n c else 0) same.1
    ∙ (λ i. cost_after ys (opens i) (if falls i then shuts i else 0))

-- and take as many basic domains
pub same_cost : (one other : Hours) → SameRules one.rules.items other.rules.items → hours_cost one ≡ hours_cost other
same_cost one other same = ap (max 1) (cost_after_same one.rules.items other.rules.items 0 0 same)

pub one_cost : (text : List ℕ) (one other : Hours) → StandsFor text one → StandsFor text other
    → hours_cost one ≡ hours_cost other
one_cost text one other h k = same_cost one other (same_rules text one other h k)

-- ---- how they are written

is_some_same : (a b : List Kind) → selectors a ≡ selectors b → is_some_kind a ≡ is_some_kind b
is_some_same [] [] e = refl
is_some_same [] (y ∷ b) e = absurd cc
is_some_same (x ∷ a) [] e = absurd cc
is_some_same (x ∷ a) (y ∷ b) e = refl

kinds_text_same : (a b : List Kind) → selectors a ≡ selectors b → kinds_text a ≡ kinds_text b
kinds_text_same [] [] e = refl
kinds_text_same [] (y ∷ b) e = absurd cc
kinds_text_same (x ∷ a) [] e = absurd cc
kinds_text_same (x ∷ a) (y ∷ b) e =
    let head : x.selectors.items ≡ y.selectors.items = cc in
    let tail : selectors a ≡ selectors b = cc in
    let follows = is_some_same a b tail in
    let rest = kinds_text_same a b tail in
    λ i. kind_text (follows i) (head i) ++ (if follows i then codes " " else []) ++ rest i

spans_text_same : (a b : List Kind) (ts : List TimeRange) → selectors a ≡ selectors b → spans_text a ts ≡ spans_text b ts
spans_text_same [] [] ts e = refl
spans_text_same [] (y ∷ b) ts e = absurd cc
spans_text_same (x ∷ a) [] ts e = absurd cc
spans_text_same (x ∷ a) (y ∷ b) [] e = kinds_text_same (x ∷ a) (y ∷ b) e
spans_text_same (x ∷ a) (y ∷ b) (t ∷ ts) e =
    ap (λ (l : List ℕ). l ++ codes " " ++ times_text (t ∷ ts)) (kinds_text_same (x ∷ a) (y ∷ b) e)

goes_into_same : (x y next after : Rule) → SameRule x y → SameRule next after → goes_into x next ≡ goes_into y after
goes_into_same x y next after same behind =
    let kinds = is_some_same x.kinds.items y.kinds.items same.kinds in
    let others = is_some_same next.kinds.items after.kinds.items behind.kinds in
    λ i. if is_some_time (same.times i) then is_some_time (behind.times i) && not (others i) else kinds i

needs_word_same : (x y : Rule) (xs ys : List Rule) → SameRule x y → SameRules xs ys → needs_word x xs ≡ needs_word y ys
needs_word_same x y [] [] same rest = refl
needs_word_same x y [] (m ∷ ys) same rest = absurd rest
needs_word_same x y (n ∷ xs) [] same rest = absurd rest
needs_word_same x y (n ∷ xs) (m ∷ ys) same rest =
    let goes = goes_into_same x y n m same rest.0 in
    λ i. is_also (rest.0.link i) && goes i

rule_text_same : (one other : Rule) (xs ys : List Rule) → SameRule one other → SameRules xs ys
    → rule_text one xs ≡ rule_text other ys
rule_text_same one other xs ys same rest =
    let kinds = spans_text_same one.kinds.items other.kinds.items one.times.items same.kinds in
    let spans = kinds ∙ ap (spans_text other.kinds.items) same.times in
    let needs = needs_word_same one other xs ys same rest in
    λ i. spans i ++ modifier_text (same.modifier i) (needs i)

more_rules_text_same : (xs ys : List Rule) → SameRules xs ys → more_rules_text xs ≡ more_rules_text ys
more_rules_text_same [] [] same = refl
more_rules_text_same [] (y ∷ ys) same = absurd same
more_rules_text_same (x ∷ xs) [] same = absurd same
more_rules_text_same (x ∷ xs) (y ∷ ys) same =
    let rule = rule_text_same x y xs ys same.0 same.1 in
    let rest = more_rules_text_same xs ys same.1 in
    λ i. link_text (same.0.link i) ++ rule i ++ rest i

rules_text_same : (xs ys : List Rule) → SameRules xs ys → rules_text xs ≡ rules_text ys
rules_text_same [] [] same = refl
rules_text_same [] (y ∷ ys) same = absurd same
rules_text_same (x ∷ xs) [] same = absurd same
rules_text_same (x ∷ xs) (y ∷ ys) same =
    let rule = rule_text_same x y xs ys same.0 same.1 in
    let rest = more_rules_text_same xs ys same.1 in
    λ i. rule i ++ rest i

-- and are written the same
pub same_text : (one other : Hours) → SameRules one.rules.items other.rules.items → hours_text one ≡ hours_text other
same_text one other same = rules_text_same one.rules.items other.rules.items same

pub one_text : (text : List ℕ) (one other : Hours) → StandsFor text one → StandsFor text other
    → hours_text one ≡ hours_text other
one_text text one other h k = same_text one other (same_rules text one other h k)
