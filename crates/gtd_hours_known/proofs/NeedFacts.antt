-- Whether a fallback rule that is not unknown is to come, by how many rules there are up to the last one.
use Rattle.std.proofs.Common.{◌≡◌, ◌∙◌, ap, arith, refl, ℕ, ◌+◌, ◌-◌, Bool, true, false, ◌||◌, cond, nat_lt, List, [], ◌∷◌}
use Rattle.std.proofs.lemmas.Bool.{lt-ltb, ltb-false}
use Rattle.std.specs.Prelude.{Option, None}
use Rattle.gtd_hours_holiday_rules.specs.declared.rules.HolidayRule.{HolidayRule}
use Rattle.gtd_hours_known.specs.Given.{or_later}
use Rattle.gtd_hours_known.specs.Needs.{falls_back, first_need, need_before, some_falls_back, up_to_fallback}
use Rattle.gtd_hours_known.specs.declared.fault.KnownFault.{KnownFault}
use Rattle.gtd_hours_known.specs.declared.known.Known.{Known}

lt_some : (n : ℕ) → nat_lt 0 (n + 1) ≡ true
lt_some n = lt-ltb 0 (n + 1) (omega arith)

none : (n : ℕ) → nat_lt 0 n ≡ false → 0 ≡ n
none n e = omega (arith, ltb-false 0 n e)

-- they are some exactly if there is one
some_left : (rules : List HolidayRule) → nat_lt 0 (up_to_fallback rules) ≡ some_falls_back rules
some_left [] = refl
some_left (r ∷ rules) = by (falls_back r) (some_falls_back rules) (up_to_fallback rules) (some_left rules)
  where
    by : (f s : Bool) (n : ℕ) → nat_lt 0 n ≡ s → nat_lt 0 (cond s (n + 1) (cond f 1 0)) ≡ (f || s)
    by true true n e = lt_some n
    by true false n e = refl
    by false true n e = lt_some n
    by false false n e = refl

pub up_or_none : (rules : List HolidayRule) → cond (some_falls_back rules) (0 + up_to_fallback rules) 0 ≡ up_to_fallback rules
up_or_none rules = by (some_falls_back rules) (up_to_fallback rules) (some_left rules)
  where
    by : (s : Bool) (n : ℕ) → nat_lt 0 n ≡ s → cond s (0 + n) 0 ≡ n
    by true n e = omega arith
    by false n e = none n e

-- one fewer behind each rule
left_behind : (r : HolidayRule) (rules : List HolidayRule) → up_to_fallback (r ∷ rules) - 1 ≡ up_to_fallback rules
left_behind r rules = by (falls_back r) (some_falls_back rules) (up_to_fallback rules) (some_left rules)
  where
    by : (f s : Bool) (n : ℕ) → nat_lt 0 n ≡ s → cond s (n + 1) (cond f 1 0) - 1 ≡ n
    by f true n e = omega arith
    by true false n e = none n e
    by false false n e = none n e

pub left_after : (k left : ℕ) (r : HolidayRule) (rules rest : List HolidayRule) → rest ≡ r ∷ rules
    → left ≡ up_to_fallback rest → k ≡ left - 1 → k ≡ up_to_fallback rules
left_after k left r rules rest same is less = less ∙ rw same at (ap (λ (n : ℕ). n - 1) is) ∙ left_behind r rules

-- ---- the first need

-- It is that of the first rule, or of those behind it.
pub need_more : (known : Known) (k left : ℕ) (need all : Option KnownFault) (r : HolidayRule) (rules rest : List HolidayRule)
    → rest ≡ r ∷ rules → left ≡ up_to_fallback rest → k ≡ left - 1 → need ≡ need_before known r (nat_lt 0 k)
    → first_need known rest ≡ all → or_later need (first_need known rules) ≡ all
need_more known k left need all r rules rest same is less here first =
    let falls : nat_lt 0 k ≡ some_falls_back rules =
    ap (λ (n : ℕ). nat_lt 0 n) (left_after k left r rules rest same is less) ∙ some_left rules in
    ap (λ (o : Option KnownFault). or_later o (first_need known rules))
    (here ∙ ap (λ (b : Bool). need_before known r b) falls)
    ∙ rw same at first

pub need_behind : (known : Known) (need all : Option KnownFault) (rules : List HolidayRule) → need ≡ None
    → or_later need (first_need known rules) ≡ all → first_need known rules ≡ all
need_behind known need all rules e f = rw e at f
