-- What is counted, and how many basic domains joins have.
use Rattle.std.proofs.Common.{◌≡◌, length, Bool, true, false, ℕ, zero, suc, ◌+◌, ◌-◌, ◌≤◌, ◌==◌, ◌||◌, ap, cond, nat_le, nat_lt}
use Rattle.std.proofs.Common.{arith, refl, ◌∙◌, List, [], ◌∷◌}
use Rattle.std.proofs.Math.Dec.{eqb-suc-zero}
use Rattle.std.proofs.lemmas.Bool.{lt-ltb, ltb-false}
use Rattle.gtd_hours.specs.Cost.{closed_cost_by, cost_after, counted, days_cost, early_cost, late_cost, most_counted}
use Rattle.gtd_hours.specs.Cost.{falls_back, open_cost_by, rule_cost, some_falls_back, spans_cost, unsaid_cost}
use Rattle.gtd_hours_domain.specs.Translation.{up_to_fallback}
use Rattle.gtd_hours.specs.Ranges.{end_of}
use Rattle.gtd_hours.specs.declared.hours.TimeRange.{TimeRange}
use Rattle.gtd_hours.specs.declared.hours.Rule.{Rule}
use Rattle.gtd_hours.specs.declared.hours.Link.{Link}
use Rattle.gtd_hours.specs.declared.hours.Link.TheVariants.{Instead, Also, Fallback}
use Rattle.gtd_hours.specs.declared.hours.Modifier.{Modifier}
use Rattle.gtd_hours.specs.declared.hours.Modifier.TheVariants.{Open, Closed}

-- sums of counted numbers
sum : (a b c d : ℕ) → counted a ≡ counted c → counted b ≡ counted d → counted (a + b) ≡ counted (c + d)
sum a b c d e f = omega (arith, e, f)

pub done : (t n : ℕ) → t ≤ most_counted → counted (t + 0) ≡ counted n → t ≡ counted n
done t n le e = omega (arith, le, e)

again : (n : ℕ) → counted (counted n) ≡ counted n
again n = omega arith

late-counted : (d : ℕ) (ts : List TimeRange) → counted (late_cost (counted d) ts) ≡ counted (late_cost d ts)
late-counted d [] = refl
late-counted d (t ∷ ts) =
    sum (cond (nat_le (end_of t.begin t.last) 1440) 0 (counted d + 1)) (late_cost (counted d) ts)
    (cond (nat_le (end_of t.begin t.last) 1440) 0 (d + 1)) (late_cost d ts) (one (nat_le (end_of t.begin t.last) 1440) d)
    (late-counted d ts)
  where
    one : (b : Bool) (d : ℕ) → counted (cond b 0 (counted d + 1)) ≡ counted (cond b 0 (d + 1))
    one true d = refl
    one false d = omega arith

pub spans-counted : (d : ℕ) (ts : List TimeRange) → counted (spans_cost (counted d) ts) ≡ counted (spans_cost d ts)
spans-counted d [] = again d
spans-counted d (t ∷ ts) =
    sum (cond (early_cost (t ∷ ts) == 0) 0 (counted d + early_cost (t ∷ ts))) (late_cost (counted d) (t ∷ ts))
    (cond (early_cost (t ∷ ts) == 0) 0 (d + early_cost (t ∷ ts))) (late_cost d (t ∷ ts))
    (one (early_cost (t ∷ ts) == 0) d (early_cost (t ∷ ts)))
    (late-counted d (t ∷ ts))
  where
    one : (b : Bool) (d e : ℕ) → counted (cond b 0 (counted d + e)) ≡ counted (cond b 0 (d + e))
    one true d e = refl
    one false d e = omega arith

-- ---- open fallback rules to come

lt-some : (n : ℕ) → nat_lt 0 (n + 1) ≡ true
lt-some n = lt-ltb 0 (n + 1) (omega arith)

none : (n : ℕ) → nat_lt 0 n ≡ false → 0 ≡ n
none n e = omega (arith, ltb-false 0 n e)

-- rules up to the last open fallback rule are some exactly if there is one
pub asked-left : (rules : List Rule) → nat_lt 0 (up_to_fallback rules) ≡ some_falls_back rules
asked-left [] = refl
asked-left (r ∷ rules) = by (falls_back r.modifier r.link) (some_falls_back rules) (up_to_fallback rules) (asked-left rules)
  where
    by : (f s : Bool) (n : ℕ) → nat_lt 0 n ≡ s → nat_lt 0 (cond s (n + 1) (cond f 1 0)) ≡ (f || s)
    by true true n e = lt-some n
    by true false n e = refl
    by false true n e = lt-some n
    by false false n e = refl

-- so where there is none they are none
pub up-or-none : (rules : List Rule) → cond (some_falls_back rules) (0 + up_to_fallback rules) 0 ≡ up_to_fallback rules
up-or-none rules = by (some_falls_back rules) (up_to_fallback rules) (asked-left rules)
  where
    by : (s : Bool) (n : ℕ) → nat_lt 0 n ≡ s → cond s (0 + n) 0 ≡ n
    by true n e = omega arith
    by false n e = none n e

-- one fewer behind each rule
pub left-behind : (r : Rule) (rules : List Rule) → up_to_fallback (r ∷ rules) - 1 ≡ up_to_fallback rules
left-behind r rules = by (falls_back r.modifier r.link) (some_falls_back rules) (up_to_fallback rules) (asked-left rules)
  where
    by : (f s : Bool) (n : ℕ) → nat_lt 0 n ≡ s → cond s (n + 1) (cond f 1 0) - 1 ≡ n
    by f true n e = omega arith
    by true false n e = none n e
    by false false n e = none n e

-- ---- what rules cost

-- nothing stays nothing, and else more is added
some-same : (a b x : ℕ) → counted a ≡ counted b → counted (cond (a == 0) 0 (a + x)) ≡ counted (cond (b == 0) 0 (b + x))
some-same zero zero x e = refl
some-same zero (suc b) x e = absurd (omega (arith, e))
some-same (suc a) zero x e = absurd (omega (arith, e))
some-same (suc a) (suc b) x e = rw (eqb-suc-zero a, eqb-suc-zero b) (sum (suc a) x (suc b) x e refl)

instead-same : (a b d x : ℕ) → counted a ≡ counted b
    → counted (cond (a == 0) x (a + d + x)) ≡ counted (cond (b == 0) x (b + d + x))
instead-same zero zero d x e = refl
instead-same zero (suc b) d x e = absurd (omega (arith, e))
instead-same (suc a) zero d x e = absurd (omega (arith, e))
instead-same (suc a) (suc b) d x e =
    rw (eqb-suc-zero a, eqb-suc-zero b) (sum (suc a + d) x (suc b + d) x (sum (suc a) d (suc b) d e refl) refl)

open-same : (m : Modifier) (l : Link) (r : Rule) (a b c d : ℕ) → counted a ≡ counted b → counted c ≡ counted d
    → counted (open_cost_by m l r a c) ≡ counted (open_cost_by m l r b d)
open-same Open Instead r a b c d e f = instead-same a b (days_cost r.kinds.items) (rule_cost r) e
open-same Open Also r a b c d e f = sum a (rule_cost r) b (rule_cost r) e refl
open-same Open Fallback r a b c d e f =
    sum (a + rule_cost r) c (b + rule_cost r) d (sum a (rule_cost r) b (rule_cost r) e refl) f
open-same Closed Instead r a b c d e f = some-same a b (rule_cost r) e
open-same Closed Also r a b c d e f = some-same a b (rule_cost r) e
open-same Closed Fallback r a b c d e f = e

closed-same : (m : Modifier) (l : Link) (r : Rule) (a b c d : ℕ) → counted a ≡ counted b → counted c ≡ counted d
    → counted (closed_cost_by m l r a c) ≡ counted (closed_cost_by m l r b d)
closed-same Open Instead r a b c d e f = some-same c d (unsaid_cost r) f
closed-same Open Also r a b c d e f = some-same c d (rule_cost r) f
closed-same Open Fallback r a b c d e f = f
closed-same Closed Instead r a b c d e f = sum c (rule_cost r) d (rule_cost r) f refl
closed-same Closed Also r a b c d e f = sum c (rule_cost r) d (rule_cost r) f refl
closed-same Closed Fallback r a b c d e f =
    sum (c + rule_cost r) a (d + rule_cost r) b (sum c (rule_cost r) d (rule_cost r) f refl) e

if-same : (k : Bool) (a b : ℕ) → counted a ≡ counted b → counted (cond k a 0) ≡ counted (cond k b 0)
if-same true a b e = e
if-same false a b e = refl

after-same : (rules : List Rule) (a b c d : ℕ) → counted a ≡ counted b → counted c ≡ counted d
    → counted (cost_after rules a c) ≡ counted (cost_after rules b d)
after-same [] a b c d e f = e
after-same (r ∷ rules) a b c d e f =
    after-same rules _ _ _ _ (open-same r.modifier r.link r a b c d e f)
    (if-same (some_falls_back rules) _ _ (closed-same r.modifier r.link r a b c d e f))

-- what is said to be closed after a rule, if it is asked for
abbrev pub closed-if : Bool → Rule → ℕ → ℕ → ℕ
closed-if asked r t c = cond asked (closed_cost_by r.modifier r.link r t c) 0

-- one fewer is left behind each rule
pub left-after : (k left : ℕ) (r : Rule) (rules rest : List Rule) → rest ≡ r ∷ rules → left ≡ up_to_fallback rest
    → k ≡ left - 1 → k ≡ up_to_fallback rules
left-after k left r rules rest same is less = less ∙ rw same at (ap (λ (n : ℕ). n - 1) is) ∙ left-behind r rules

-- It is asked for if there is an open fallback rule behind the rule.
pub asked-behind : (k left : ℕ) (r : Rule) (rules rest : List Rule) → rest ≡ r ∷ rules → left ≡ up_to_fallback rest → k ≡ left - 1
    → nat_lt 0 k ≡ some_falls_back rules
asked-behind k left r rules rest same is less =
    ap (λ (n : ℕ). nat_lt 0 n) (left-after k left r rules rest same is less) ∙ asked-left rules

-- one rule more
pub one_more-cost : (t c u v n k left : ℕ) (r : Rule) (rules rest : List Rule) → rest ≡ r ∷ rules
    → left ≡ up_to_fallback rest → k ≡ left - 1
    → u ≡ counted (open_cost_by r.modifier r.link r t c) → v ≡ counted (closed-if (nat_lt 0 k) r t c)
    → counted (cost_after rest t c) ≡ counted n → counted (cost_after rules u v) ≡ counted n
one_more-cost t c u v n k left r rules rest same is less one two all =
    let next = open_cost_by r.modifier r.link r t c in
    let later = closed-if (some_falls_back rules) r t c in
    let asked : v ≡ counted later =
    two ∙ ap (λ (b : Bool). counted (closed-if b r t c)) (asked-behind k left r rules rest same is less) in
    after-same rules u next v later (rw one (again next)) (rw asked (again later)) ∙ rw same at all

pub leaves-after : (t c u v n k left : ℕ) (r : Rule) (rules rest : List Rule) → rest ≡ r ∷ rules
    → left ≡ up_to_fallback rest → k ≡ left - 1
    → u ≡ open_cost_by r.modifier r.link r t c → v ≡ closed-if (nat_lt 0 k) r t c
    → cost_after rest t c ≡ n → cost_after rules u v ≡ n
leaves-after t c u v n k left r rules rest same is less one two all =
    let asked : v ≡ closed-if (some_falls_back rules) r t c =
    two ∙ ap (λ (b : Bool). closed-if b r t c) (asked-behind k left r rules rest same is less) in
    rw (one, asked) (rw same at all)

-- what takes one at least is not nothing
pub some-early : (l d k e : ℕ) → 1 ≤ k → k ≡ e → l ≡ d + k → l ≡ cond (e == 0) 0 (d + e)
some-early l d k zero le same all = absurd (omega (arith, le, same))
some-early l d k (suc e) le same all = rw (eqb-suc-zero e) (omega (arith, same, all))

pub some-open : (l a x : ℕ) → 1 ≤ a → l ≡ a + x → l ≡ cond (a == 0) 0 (a + x)
some-open l zero x le e = absurd (omega (arith, le))
some-open l (suc a) x le e = rw (eqb-suc-zero a) e

pub some-instead : (l a d x : ℕ) → 1 ≤ a → l ≡ a + d + x → l ≡ cond (a == 0) x (a + d + x)
some-instead l zero d x le e = absurd (omega (arith, le))
some-instead l (suc a) d x le e = rw (eqb-suc-zero a) e

pub some-unsaid : (o k l d x : ℕ) → 1 ≤ l → k ≡ l + d → o ≡ cond (k == 0) 0 (k + x) → o ≡ cond (l == 0) 0 (l + (d + x))
some-unsaid o k zero d x le same e = absurd (omega (arith, le))
some-unsaid o zero (suc l) d x le same e = absurd (omega (arith, same))
some-unsaid o (suc k) (suc l) d x le same e =
    let f = rw (eqb-suc-zero k) at e in rw (eqb-suc-zero l) (omega (arith, same, f))

pub some-kept : (k l d : ℕ) → 1 ≤ l → k ≡ l + d → k ≡ cond (l == 0) 0 (l + (d + 0))
some-kept k zero d le e = absurd (omega (arith, le))
some-kept k (suc l) d le e = rw (eqb-suc-zero l) (omega (arith, e))

-- one range more that ends on a later day
pub late-leaves : (v u n d : ℕ) (t : TimeRange) (ts rest : List TimeRange) → rest ≡ t ∷ ts
    → v ≡ u + cond (nat_le (end_of t.begin t.last) 1440) 0 (d + 1) → u + late_cost d rest ≡ n → v + late_cost d ts ≡ n
late-leaves v u n d t ts rest same one all = let each = rw same at all in omega (arith, one, each)

-- nothing is left
pub nothing-left : {A : Type 0} (xs : List A) → length xs ≡ 0 → xs ≡ []
nothing-left [] e = refl
nothing-left (x ∷ xs) e = absurd (omega (arith, e))
