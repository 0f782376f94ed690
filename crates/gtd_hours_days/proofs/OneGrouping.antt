-- A set of days is written in one way.
use mathlib.Core.HLevel.{is_prop→PathP}
use Rattle.std.proofs.Common.{◌≡◌, ◌∙◌, sym, refl, ap, subst, arith, inl, inr, ◌↔◌, ℕ, List, [], ◌∷◌, length}
use Rattle.std.proofs.Common.{Option, Some, None, ℤ, pos, ◌+ℤ◌, ◌≤ℤ◌}
use Rattle.std.proofs.Props.{props}
use Rattle.std.proofs.lemmas.Int.{by_lt_z}
use Rattle.gtd_core.specs.Limits.{first_calendar_day}
use Rattle.gtd_calendar.specs.facts.Signed.{signed_arith}
use Rattle.gtd_calendar.specs.Calendar.{IsCalendarDay}
use Rattle.gtd_hours_holidays.specs.Days.{IsIn}
use Rattle.gtd_hours_holidays.specs.Runs.{AreRuns, IsNextRun}
use Rattle.gtd_hours_holidays.specs.declared.days.Days.{Days}
use Rattle.gtd_hours_holidays.specs.declared.known_years.KnownYears.{KnownYears}
use Rattle.gtd_hours_holidays.specs.declared.run.Run.{Run}
use Rattle.gtd_hours_days.specs.Costs.{IsCost}
use Rattle.gtd_hours_days.specs.Groups.{AreGroups, AreSplit, IsGrouping, IsNextGroup, IsYearly}
use Rattle.gtd_hours_days.specs.Ranges.{IsGroup}
use Rattle.gtd_hours_days.specs.declared.group.Group.{Group}
use Rattle.gtd_hours_days.proofs.CoverFacts.{order_of}
use Rattle.gtd_hours_days.proofs.DateFacts.{one_month_day}
use Rattle.gtd_hours_days.proofs.YearlyFacts.{same_days}

-- ---- the same numbers are the same run, or group

same_run : (x y : Run) → x.first ≡ y.first → x.last ≡ y.last → x ≡ y
same_run x y first last = λ i. record {
  first = first i;
  last = last i;
  first_in = is_prop→PathP (λ j. IsCalendarDay (first j)) (λ j. hlevel props) x.first_in y.first_in i;
  last_in = is_prop→PathP (λ j. IsCalendarDay (last j)) (λ j. hlevel props) x.last_in y.last_in i;
  order = is_prop→PathP (λ j. first j ≤ℤ last j) (λ j. hlevel props) x.order y.order i;
}

group_is : (x y : Group) → x.month ≡ y.month → x.day ≡ y.day → x.days ≡ y.days → x ≡ y
group_is x y month day days = λ i. record {
  month = month i;
  day = day i;
  days = days i;
  in_range = is_prop→PathP (λ j. IsGroup (month j) (day j) (days j)) (λ j. hlevel props) x.in_range y.in_range i;
}

both_more : (A : Type 0) (x y : A) (xs ys : List A) → x ≡ y → xs ≡ ys → x ∷ xs ≡ y ∷ ys
both_more A x y xs ys e f = rw (e, f) refl

-- ---- two sets of the same days

module _ (a b : Days) (same : (n : ℤ) → IsIn a n ↔ IsIn b n) where
  one_first : (from : ℤ) (r s : Run) → IsNextRun a from r → IsNextRun b from s → r.first ≡ s.first
  one_first from r s h g =
      by_lt_z r.first s.first
      (λ lt. absurd (g.first.earlier r.first h.first.after lt ((same r.first).0 h.first.holds)))
      (λ ge. by_lt_z s.first r.first
      (λ lt. absurd (h.first.earlier s.first g.first.after lt ((same s.first).1 g.first.holds)))
      (λ le. omega (arith, signed_arith, ge, le)))

  one_last : (from : ℤ) (r s : Run) → IsNextRun a from r → IsNextRun b from s → r.first ≡ s.first → r.last ≡ s.last
  one_last from r s h g e =
      let p = r.order in
      let q = s.order in
      by_lt_z r.last s.last
      (λ lt. absurd (h.last.ends ((same (r.last +ℤ pos 1)).1 (g.last.each (r.last +ℤ pos 1) (omega (arith, signed_arith, p, e))
      (omega (arith, signed_arith, lt))))))
      (λ ge. by_lt_z s.last r.last
      (λ lt. absurd (g.last.ends ((same (s.last +ℤ pos 1)).0 (h.last.each (s.last +ℤ pos 1) (omega (arith, signed_arith, q, e))
      (omega (arith, signed_arith, lt))))))
      (λ le. omega (arith, signed_arith, ge, le)))

  one_run : (from : ℤ) (r s : Run) → IsNextRun a from r → IsNextRun b from s → r ≡ s
  one_run from r s h g = let e = one_first from r s h g in same_run r s e (one_last from r s h g e)

  one_runs : (from : ℤ) (rs ss : List Run) → AreRuns a from rs → AreRuns b from ss → rs ≡ ss
  one_runs from [] [] h g = refl
  one_runs from [] (s ∷ ss) h g =
      absurd (h s.first g.0.first.after g.0.first.before ((same s.first).1 g.0.first.holds))
  one_runs from (r ∷ rs) [] h g =
      absurd (g r.first h.0.first.after h.0.first.before ((same r.first).0 h.0.first.holds))
  one_runs from (r ∷ rs) (s ∷ ss) h g =
      let e = one_run from r s h.0 g.0 in
      let f : r.last ≡ s.last = ap (λ (x : Run). x.last) e in
      both_more Run r s rs ss e (one_runs (r.last +ℤ pos 1) rs ss h.1 (rw (sym f) at g.1))

  module _ (years : KnownYears) where
    one_yearly : (run : Run) (x y : Group) → IsYearly a years run x → IsYearly b years run y → x ≡ y
    one_yearly run x y h g =
        let e = one_month_day x.month x.day y.month y.day run.first h.same.0 g.same.0 in
        group_is x y e.0 e.1 (same_days run x y h.same g.same)

    to_b : (run : Run) (x : Group) → IsYearly a years run x → IsYearly b years run x
    to_b run x h = record {
      begins = h.begins;
      ends = h.ends;
      same = h.same;
      each = λ n of is. (same n).0 (h.each n of is);
    }

    to_a : (run : Run) (x : Group) → IsYearly b years run x → IsYearly a years run x
    to_a run x h = record {
      begins = h.begins;
      ends = h.ends;
      same = h.same;
      each = λ n of is. (same n).1 (h.each n of is);
    }

    one_split : (runs : List Run) (fs gs : List Group) (os ps : List Run) → AreSplit a years runs fs os
        → AreSplit b years runs gs ps → (fs ≡ gs) × (os ≡ ps)
    one_split [] fs gs os ps h g = (h.0 ∙ sym g.0, h.1 ∙ sym g.1)
    one_split (run ∷ runs) fs gs os ps (inl x) (inl y) =
        let rest = one_split runs x.1 y.1 os ps x.3 y.3 in
        (x.4 ∙ both_more Group x.0 y.0 x.1 y.1 (one_yearly run x.0 y.0 x.2 y.2) rest.0 ∙ sym y.4, rest.1)
    one_split (run ∷ runs) fs gs os ps (inl x) (inr y) = absurd (y.1 x.0 (to_b run x.0 x.2))
    one_split (run ∷ runs) fs gs os ps (inr x) (inl y) = absurd (x.1 y.0 (to_a run y.0 y.2))
    one_split (run ∷ runs) fs gs os ps (inr x) (inr y) =
        let rest = one_split runs fs gs x.0 y.0 x.2 y.2 in
        (rest.0, x.3 ∙ both_more Run run run x.0 y.0 refl rest.1 ∙ sym y.3)

-- ---- each group once

one_next : (found : List Group) (after : Option Group) (x y : Group) → IsNextGroup found after x → IsNextGroup found after y
    → x ≡ y
one_next found after x y h g = elim (order_of x y) [
  | inl lt ↦ absurd (g.first x h.is h.later lt)
  | inr (inl e) ↦ group_is x y e.0 e.1 e.2
  | inr (inr lt) ↦ absurd (h.first y g.is g.later lt)
]

one_groups : (found : List Group) (after : Option Group) (xs ys : List Group) → AreGroups found after xs
    → AreGroups found after ys → xs ≡ ys
one_groups found after [] [] h g = refl
one_groups found after [] (y ∷ ys) h g = absurd (h y g.0.is g.0.later)
one_groups found after (x ∷ xs) [] h g = absurd (g x h.0.is h.0.later)
one_groups found after (x ∷ xs) (y ∷ ys) h g =
    let e = one_next found after x y h.0 g.0 in
    both_more Group x y xs ys e (one_groups found (Some x) xs ys h.1
    (subst (λ (z : Group). AreGroups found (Some z) ys) (sym e) g.1))

-- ---- the whole

pub one_way : (a b : Days) (years : KnownYears) (xs ys : List Group) (rs ss : List Run)
    → ((n : ℤ) → IsIn a n ↔ IsIn b n) → IsGrouping a years xs rs → IsGrouping b years ys ss → (xs ≡ ys) × (rs ≡ ss)
one_way a b years xs ys rs ss same h g =
    let runs = one_runs a b same first_calendar_day h.runs g.runs h.are g.are in
    let split = one_split a b same years h.runs h.found g.found h.others g.others h.split
    (subst (λ (zs : List Run). AreSplit b years zs g.found g.others) (sym runs) g.split) in
    let groups = one_groups h.found None h.groups g.groups h.each
    (subst (λ (zs : List Group). AreGroups zs None g.groups) (sym split.0) g.each) in
    let many : length h.found ≡ length g.found = ap (λ (zs : List Group). length zs) split.0 in
    let few : length h.groups ≡ length g.groups = ap (λ (zs : List Group). length zs) groups in
    elim (h.chosen) [
      | inl x ↦ elim (g.chosen) [
        | inl y ↦ (x.1 ∙ groups ∙ sym y.1, x.2 ∙ split.1 ∙ sym y.2)
        | inr y ↦ (let p = x.0 in let q = y.0 in absurd (omega (arith, many, few, p, q)))
      ]
      | inr x ↦ elim (g.chosen) [
        | inl y ↦ (let p = x.0 in let q = y.0 in absurd (omega (arith, many, few, p, q)))
        | inr y ↦ (x.1 ∙ sym y.1, x.2 ∙ runs ∙ sym y.2)
      ]
    ]

pub one_cost : (a b : Days) (years : KnownYears) (i k : ℕ) → ((n : ℤ) → IsIn a n ↔ IsIn b n) → IsCost a years i
    → IsCost b years k → i ≡ k
one_cost a b years i k same h g =
    let e = one_way a b years h.0 g.0 h.1 g.1 same h.2 g.2 in
    h.3 ∙ rw (e.0, e.1) refl ∙ sym g.3
