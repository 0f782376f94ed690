-- Whether a fallback rule that is not unknown is to come, by how many rules there are up to the last one: for `first_need`.
use Rattle.std.proofs.Common.{◌≡◌, ◌∙◌, ap, arith, refl, ℕ, ◌+◌, ◌-◌, Bool, true, false, ◌||◌, cond, nat_lt, List, [], ◌∷◌, length}
use Rattle.std.proofs.lemmas.Bool.{lt-ltb, ltb-false}
use Rattle.std.specs.Prelude.{Option, None}
use Rattle.std.specs.Option.{option_or}
use Rattle.gtd_hours2.specs.Rules.{Rule}
use Rattle.gtd_hours_plain2.specs.Needs.{falls_back, need_from, rule_need, some_falls_back, up_to_fallback}
use Rattle.gtd_hours_plain2.specs.declared.given.GivenDays.{GivenDays}
use Rattle.gtd_hours_plain2.specs.declared.given.GivenTimes.{GivenTimes}
use Rattle.gtd_hours_plain2.specs.declared.need.HoursNeed.{HoursNeed}

lt_some : (n : ℕ) → nat_lt 0 (n + 1) ≡ true
lt_some n = lt-ltb 0 (n + 1) (omega arith)

none : (n : ℕ) → nat_lt 0 n ≡ false → 0 ≡ n
none n e = omega (arith, ltb-false 0 n e)

-- they are some exactly if there is one
pub some_left : (rules : List Rule) → nat_lt 0 (up_to_fallback rules) ≡ some_falls_back rules
some_left [] = refl
some_left (r ∷ rules) = by (falls_back r) (some_falls_back rules) (up_to_fallback rules) (some_left rules)
  where
    by : (f s : Bool) (n : ℕ) → nat_lt 0 n ≡ s → nat_lt 0 (cond s (n + 1) (cond f 1 0)) ≡ (f || s)
    by true true n e = lt_some n
    by true false n e = refl
    by false true n e = lt_some n
    by false false n e = refl

pub up_or_none : (rules : List Rule) → cond (some_falls_back rules) (0 + up_to_fallback rules) 0 ≡ up_to_fallback rules
up_or_none rules = by (some_falls_back rules) (up_to_fallback rules) (some_left rules)
  where
    by : (s : Bool) (n : ℕ) → nat_lt 0 n ≡ s → cond s (0 + n) 0 ≡ n
    by true n e = omega arith
    by false n e = none n e

-- one fewer after each rule
left_behind : (r : Rule) (rules : List Rule) → up_to_fallback (r ∷ rules) - 1 ≡ up_to_fallback rules
left_behind r rules = by (falls_back r) (some_falls_back rules) (up_to_fallback rules) (some_left rules)
  where
    by : (f s : Bool) (n : ℕ) → nat_lt 0 n ≡ s → cond s (n + 1) (cond f 1 0) - 1 ≡ n
    by f true n e = omega arith
    by true false n e = none n e
    by false false n e = none n e

pub left_after : (k left : ℕ) (r : Rule) (rules rest : List Rule) → rest ≡ r ∷ rules
    → left ≡ up_to_fallback rest → k ≡ left - 1 → k ≡ up_to_fallback rules
left_after k left r rules rest same is less = less ∙ rw same at (ap (λ (n : ℕ). n - 1) is) ∙ left_behind r rules

-- it is that of the first rule, or of those after it
pub need_more : (d : GivenDays) (g : GivenTimes) (k left i n : ℕ) (need all : Option HoursNeed) (r : Rule)
    (rules rest : List Rule)
    → rest ≡ r ∷ rules → left ≡ up_to_fallback rest → k ≡ left - 1 → need ≡ rule_need d g i n r (nat_lt 0 k)
    → need_from d g i n rest ≡ all → option_or need (need_from d g (i + 1) (n + length r.parts) rules) ≡ all
need_more d g k left i n need all r rules rest same is less here first =
    let falls : nat_lt 0 k ≡ some_falls_back rules =
    ap (λ (m : ℕ). nat_lt 0 m) (left_after k left r rules rest same is less) ∙ some_left rules in
    ap (λ (o : Option HoursNeed). option_or o (need_from d g (i + 1) (n + length r.parts) rules))
    (here ∙ ap (λ (b : Bool). rule_need d g i n r b) falls)
    ∙ rw same at first

pub need_behind : (d : GivenDays) (g : GivenTimes) (i j n m : ℕ) (need all : Option HoursNeed) (r : Rule) (rules : List Rule)
    → need ≡ None → j ≡ i + 1 → m ≡ n + length r.parts
    → option_or need (need_from d g (i + 1) (n + length r.parts) rules) ≡ all → need_from d g j m rules ≡ all
need_behind d g i j n m need all r rules e one more f =
    ap (λ (x : ℕ). need_from d g x m rules) one
    ∙ ap (λ (x : ℕ). need_from d g (i + 1) x rules) more
    ∙ rw e at f
