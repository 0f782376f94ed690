-- Rules that have the same spans and days, and take as many basic domains: hours of them are open at the same seconds.
use Rattle.std.proofs.Common.{◌≡◌, ◌∙◌, sym, ap, refl, subst, ◌⊎◌, inl, inr, ◌↔◌, ℕ, ◌+◌, ◌==◌, ◌||◌, max, ℤ}
use Rattle.std.proofs.Common.{List, [], ◌∷◌, ◌++◌}
use Rattle.std.specs.Prelude.{if◌then◌else◌}
use Rattle.gtd_hours.specs.Cost.{closed_cost_by, cost_after, days_cost, ends_late, falls_back, hours_cost, open_cost_by}
use Rattle.gtd_hours.specs.Cost.{rule_cost, some_falls_back, spans_cost, unsaid_cost}
use Rattle.gtd_hours.specs.Opening.{InSpans, IsClosedBy, IsOnMatch, IsOpen, IsOpenAfter, IsOpenBy}
use Rattle.gtd_hours.specs.declared.hours.Hours.{Hours}
use Rattle.gtd_hours.specs.declared.hours.Link.{Link}
use Rattle.gtd_hours.specs.declared.hours.Link.TheVariants.{Also, Fallback, Instead}
use Rattle.gtd_hours.specs.declared.hours.Modifier.{Modifier}
use Rattle.gtd_hours.specs.declared.hours.Modifier.TheVariants.{Closed, Open}
use Rattle.gtd_hours.specs.declared.hours.Rule.{Rule}
use Rattle.gtd_hours_known.specs.declared.known.KnownHours.{KnownHours}

pub record AreAlike (one other : Rule) : Type 0 where
  pub spans : (s : ℤ) → InSpans one.kinds.items one.times.items s ↔ InSpans other.kinds.items other.times.items s
  pub match : (s : ℤ) → IsOnMatch one.kinds.items s ↔ IsOnMatch other.kinds.items s
  pub cost : days_cost one.kinds.items ≡ days_cost other.kinds.items
  pub times : one.times.items ≡ other.times.items
  pub modifier : one.modifier ≡ other.modifier
  pub link : one.link ≡ other.link

abbrev pub AreAllAlike : List Rule → List Rule → Type 0
AreAllAlike [] [] = Unit {0}
AreAllAlike (x ∷ xs) (y ∷ ys) = AreAlike x y × AreAllAlike xs ys
AreAllAlike xs ys = ⊥

-- ---- lists

pub alike_append : (xs ys more rest : List Rule) → AreAllAlike xs ys → AreAllAlike more rest
    → AreAllAlike (xs ++ more) (ys ++ rest)
alike_append [] [] more rest same others = others
alike_append [] (y ∷ ys) more rest same others = absurd same
alike_append (x ∷ xs) [] more rest same others = absurd same
alike_append (x ∷ xs) (y ∷ ys) more rest same others = (same.0, alike_append xs ys more rest same.1 others)

pub alike_by : (xs ys us vs : List Rule) → xs ≡ us → ys ≡ vs → AreAllAlike us vs → AreAllAlike xs ys
alike_by xs ys us vs e f same =
    subst (λ (l : List Rule). AreAllAlike l ys) (sym e) (subst (λ (l : List Rule). AreAllAlike us l) (sym f) same)

-- hours that two texts have are those of two others
pub hours_of : (one other a b : KnownHours) → one.hours ≡ a.hours → other.hours ≡ b.hours
    → AreAllAlike a.hours.rules.items b.hours.rules.items → AreAllAlike one.hours.rules.items other.hours.rules.items
hours_of one other a b e f same = rw (e, f) same

-- ---- what they say

either_iff : (A B C D : Type 0) → (A ↔ B) → (C ↔ D) → (A ⊎ C) ↔ (B ⊎ D)
either_iff A B C D p q = (
  (λ h. elim h [ inl a ↦ inl (p.0 a) | inr a ↦ inr (q.0 a) ]),
  (λ h. elim h [ inl a ↦ inl (p.1 a) | inr a ↦ inr (q.1 a) ]),
)

without_iff : (A B C D : Type 0) → (A ↔ B) → (C ↔ D) → (A × (C → ⊥)) ↔ (B × (D → ⊥))
without_iff A B C D p q = ((λ h. (p.0 h.0, (λ d. h.1 (q.1 d)))), (λ h. (p.1 h.0, (λ c. h.1 (q.0 c)))))

without_two : (A B C D E F : Type 0) → (A ↔ B) → (C ↔ D) → (E ↔ F) → (A × (C → ⊥) × (E → ⊥)) ↔ (B × (D → ⊥) × (F → ⊥))
without_two A B C D E F p q r = (
  (λ h. (p.0 h.0, (λ d. h.1 (q.1 d)), (λ f. h.2 (r.1 f)))),
  (λ h. (p.1 h.0, (λ c. h.1 (q.0 c)), (λ e. h.2 (r.0 e)))),
)

open_alike : (m : Modifier) (l : Link) (x y : Rule) (A B C D : Type 0) (s : ℤ) → AreAlike x y → (A ↔ B) → (C ↔ D)
    → IsOpenBy m l x A C s ↔ IsOpenBy m l y B D s
open_alike Open Instead x y A B C D s is p q = either_iff _ _ _ _ (without_iff A B _ _ p (is.match s)) (is.spans s)
open_alike Open Also x y A B C D s is p q = either_iff A B _ _ p (is.spans s)
open_alike Open Fallback x y A B C D s is p q = either_iff A B _ _ p (without_iff _ _ C D (is.spans s) q)
open_alike Closed Instead x y A B C D s is p q = without_iff A B _ _ p (is.spans s)
open_alike Closed Also x y A B C D s is p q = without_iff A B _ _ p (is.spans s)
open_alike Closed Fallback x y A B C D s is p q = p

closed_alike : (m : Modifier) (l : Link) (x y : Rule) (A B C D : Type 0) (s : ℤ) → AreAlike x y → (A ↔ B) → (C ↔ D)
    → IsClosedBy m l x A C s ↔ IsClosedBy m l y B D s
closed_alike Open Instead x y A B C D s is p q = without_two C D _ _ _ _ q (is.match s) (is.spans s)
closed_alike Open Also x y A B C D s is p q = without_iff C D _ _ q (is.spans s)
closed_alike Open Fallback x y A B C D s is p q = q
closed_alike Closed Instead x y A B C D s is p q = either_iff C D _ _ q (is.spans s)
closed_alike Closed Also x y A B C D s is p q = either_iff C D _ _ q (is.spans s)
closed_alike Closed Fallback x y A B C D s is p q = either_iff C D _ _ q (without_iff _ _ A B (is.spans s) p)

open_rule : (x y : Rule) (A B C D : Type 0) (s : ℤ) → AreAlike x y → (A ↔ B) → (C ↔ D)
    → IsOpenBy x.modifier x.link x A C s ↔ IsOpenBy y.modifier y.link y B D s
open_rule x y A B C D s is p q =
    subst (λ (m : Modifier). IsOpenBy x.modifier x.link x A C s ↔ IsOpenBy m y.link y B D s) is.modifier
    (subst (λ (l : Link). IsOpenBy x.modifier x.link x A C s ↔ IsOpenBy x.modifier l y B D s) is.link
    (open_alike x.modifier x.link x y A B C D s is p q))

closed_rule : (x y : Rule) (A B C D : Type 0) (s : ℤ) → AreAlike x y → (A ↔ B) → (C ↔ D)
    → IsClosedBy x.modifier x.link x A C s ↔ IsClosedBy y.modifier y.link y B D s
closed_rule x y A B C D s is p q =
    subst (λ (m : Modifier). IsClosedBy x.modifier x.link x A C s ↔ IsClosedBy m y.link y B D s) is.modifier
    (subst (λ (l : Link). IsClosedBy x.modifier x.link x A C s ↔ IsClosedBy x.modifier l y B D s) is.link
    (closed_alike x.modifier x.link x y A B C D s is p q))

open_after : (xs ys : List Rule) (A B C D : Type 0) (s : ℤ) → AreAllAlike xs ys → (A ↔ B) → (C ↔ D)
    → IsOpenAfter xs A C s ↔ IsOpenAfter ys B D s
open_after [] [] A B C D s is p q = p
open_after [] (y ∷ ys) A B C D s is p q = absurd is
open_after (x ∷ xs) [] A B C D s is p q = absurd is
open_after (x ∷ xs) (y ∷ ys) A B C D s is p q =
    open_after xs ys _ _ _ _ s is.1 (open_rule x y A B C D s is.0 p q) (closed_rule x y A B C D s is.0 p q)

pub same_opening : (one other : Hours) → AreAllAlike one.rules.items other.rules.items → (s : ℤ)
    → IsOpen one s ↔ IsOpen other s
same_opening one other is s =
    open_after one.rules.items other.rules.items ⊥ ⊥ ⊥ ⊥ s is ((λ h. h), (λ h. h)) ((λ h. h), (λ h. h))

-- ---- what they cost

spans_alike : (x y : Rule) → AreAlike x y → rule_cost x ≡ rule_cost y
spans_alike x y is = λ i. spans_cost (is.cost i) (is.times i)

unsaid_alike : (x y : Rule) → AreAlike x y → unsaid_cost x ≡ unsaid_cost y
unsaid_alike x y is =
    let r = spans_alike x y is in λ i. is.cost i + (if ends_late (is.times i) then r i else 0)

open_costs : (m : Modifier) (l : Link) (x y : Rule) (n c : ℕ) → AreAlike x y
    → open_cost_by m l x n c ≡ open_cost_by m l y n c
open_costs Open Instead x y n c is =
    let r = spans_alike x y is in λ i. if n == 0 then r i else n + is.cost i + r i
open_costs Open Also x y n c is = ap (λ (k : ℕ). n + k) (spans_alike x y is)
open_costs Open Fallback x y n c is = ap (λ (k : ℕ). n + k + c) (spans_alike x y is)
open_costs Closed Instead x y n c is = ap (λ (k : ℕ). if n == 0 then 0 else n + k) (spans_alike x y is)
open_costs Closed Also x y n c is = ap (λ (k : ℕ). if n == 0 then 0 else n + k) (spans_alike x y is)
open_costs Closed Fallback x y n c is = refl

closed_costs : (m : Modifier) (l : Link) (x y : Rule) (n c : ℕ) → AreAlike x y
    → closed_cost_by m l x n c ≡ closed_cost_by m l y n c
closed_costs Open Instead x y n c is = ap (λ (k : ℕ). if c == 0 then 0 else c + k) (unsaid_alike x y is)
closed_costs Open Also x y n c is = ap (λ (k : ℕ). if c == 0 then 0 else c + k) (spans_alike x y is)
closed_costs Open Fallback x y n c is = refl
closed_costs Closed Instead x y n c is = ap (λ (k : ℕ). c + k) (spans_alike x y is)
closed_costs Closed Also x y n c is = ap (λ (k : ℕ). c + k) (spans_alike x y is)
closed_costs Closed Fallback x y n c is = ap (λ (k : ℕ). c + k + n) (spans_alike x y is)

falls_alike : (xs ys : List Rule) → AreAllAlike xs ys → some_falls_back xs ≡ some_falls_back ys
falls_alike [] [] is = refl
falls_alike [] (y ∷ ys) is = absurd is
falls_alike (x ∷ xs) [] is = absurd is
falls_alike (x ∷ xs) (y ∷ ys) is =
    let rest = falls_alike xs ys is.1 in λ i. falls_back (is.0.modifier i) (is.0.link i) || rest i

cost_alike : (xs ys : List Rule) (n c : ℕ) → AreAllAlike xs ys → cost_after xs n c ≡ cost_after ys n c
cost_alike [] [] n c is = refl
cost_alike [] (y ∷ ys) n c is = absurd is
cost_alike (x ∷ xs) (y ∷ ys) n c is =
    let o : open_cost_by x.modifier x.link x n c ≡ open_cost_by y.modifier y.link y n c =
    open_costs x.modifier x.link x y n c is.0 ∙ (λ i. open_cost_by (is.0.modifier i) (is.0.link i) y n c) in
    let k : closed_cost_by x.modifier x.link x n c ≡ closed_cost_by y.modifier y.link y n c =
    closed_costs x.modifier x.link x y n c is.0 ∙ (λ i. closed_cost_by (is.0.modifier i) (is.0.link i) y n c) in
    let f = falls_alike xs ys is.1 in
    cost_alike xs ys _ _ is.1 ∙ (λ i. cost_after ys (o i) (if f i then k i else 0))
cost_alike (x ∷ xs) [] n c is = absurd is

pub same_cost : (one other : Hours) → AreAllAlike one.rules.items other.rules.items → hours_cost one ≡ hours_cost other
same_cost one other is = ap (max 1) (cost_alike one.rules.items other.rules.items 0 0 is)
