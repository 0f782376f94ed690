-- The same tree is an equal tree. These proofs are here since what `==` keeps cites them. There is nothing to believe.
use Rattle.std.proofs.Common.{◌≡◌, ℕ, Bool, true, false, Option, Some, None, refl, sym, ap, ◌∙◌, eq-eqb}
use Rattle.std.specs.Prelude.{◌&&◌, ◌==◌, ◌↔◌, IsTrue}
use Rattle.std.specs.Cmp.{IsEquivalence, IsPartialEquivalence, both_ways, partial_equiv_from_equiv}
use Rattle.std.proofs.lemmas.Bool.{eqb-true, false≢true}
use Rattle.gtd_core.specs.declared.start.StartParts.{StartParts}
use Rattle.gtd_core.specs.declared.duration.DurationParts.{DurationParts}
use Rattle.gtd_core.specs.declared.domain.Op.{Op}
use Rattle.gtd_core.specs.declared.domain.Op.TheVariants.{Union, Meet, Minus}
use Rattle.gtd_core.specs.Trees.{Tree, Single, Joined}
use Rattle.gtd_core.specs.Equality.{same_number, same_place, same_start, same_duration, same_op, same_tree}

both : (a b : Bool) → (a && b) ≡ true → (a ≡ true) × (b ≡ true)
both true b h = (refl, h)
both false b h = absurd (false≢true h)

and_so : (a b : Bool) → a ≡ true → b ≡ true → (a && b) ≡ true
and_so true b h k = k
and_so false b h k = absurd (false≢true h)

number_equal : (a b : Option ℕ) → same_number a b ≡ true → a ≡ b
number_equal None None h = refl
number_equal (Some m) (Some n) h = ap (λ (k : ℕ). Some k) (eqb-true m n h)
number_equal None (Some n) h = absurd (false≢true h)
number_equal (Some m) None h = absurd (false≢true h)

number_same : (a : Option ℕ) → same_number a a ≡ true
number_same None = refl
number_same (Some n) = eq-eqb n n refl

place_equal : (a b : Option (ℕ × ℕ)) → same_place a b ≡ true → a ≡ b
place_equal None None h = refl
place_equal (Some p) (Some q) h =
    let parts = both (p.0 == q.0) (p.1 == q.1) h in
    let pair : ℕ → ℕ → ℕ × ℕ = λ m n. (m, n) in
    ap (λ (k : ℕ). Some (pair k p.1)) (eqb-true p.0 q.0 parts.0) ∙ ap (λ (k : ℕ). Some (pair q.0 k)) (eqb-true p.1 q.1 parts.1)
place_equal None (Some q) h = absurd (false≢true h)
place_equal (Some p) None h = absurd (false≢true h)

place_same : (a : Option (ℕ × ℕ)) → same_place a a ≡ true
place_same None = refl
place_same (Some p) = and_so (p.0 == p.0) (p.1 == p.1) (eq-eqb p.0 p.0 refl) (eq-eqb p.1 p.1 refl)

start_equal : (a b : StartParts) → same_start a b ≡ true → a ≡ b
start_equal a b h =
    let year = both _ _ h in
    let month = both _ _ year.1 in
    let week = both _ _ month.1 in
    let day = both _ _ week.1 in
    let hour = both _ _ day.1 in
    let minute = both _ _ hour.1 in
    let second = both _ _ minute.1 in
    let nth = both _ _ second.1 in
    let nth_back = both _ _ nth.1 in
    ap (λ (x : Option ℕ). record a { year = x }) (number_equal a.year b.year year.0)
    ∙ ap (λ (x : Option ℕ). record a { year = b.year; month = x }) (number_equal a.month b.month month.0)
    ∙ ap (λ (x : Option ℕ). record a { year = b.year; month = b.month; week = x }) (number_equal a.week b.week week.0)
    ∙ ap (λ (x : Option ℕ). record a { year = b.year; month = b.month; week = b.week; day = x })
    (number_equal a.day b.day day.0)
    ∙ ap (λ (x : Option ℕ). record a { year = b.year; month = b.month; week = b.week; day = b.day; hour = x })
    (number_equal a.hour b.hour hour.0)
    ∙ ap (λ (x : Option ℕ). record a { year = b.year; month = b.month; week = b.week; day = b.day; hour = b.hour; minute = x })
    (number_equal a.minute b.minute minute.0)
    ∙ ap (λ (x : Option ℕ). record a {
      year = b.year;
      month = b.month;
      week = b.week;
      day = b.day;
      hour = b.hour;
      minute =
          b.minute;
      second = x;
    })
    (number_equal a.second b.second second.0)
    ∙ ap (λ (x : Option (ℕ × ℕ)). record a {
      year = b.year;
      month = b.month;
      week = b.week;
      day = b.day;
      hour = b.hour;
      minute =
          b.minute;
      second = b.second;
      nth = x;
    })
    (place_equal a.nth b.nth nth.0)
    ∙ ap (λ (x : Option (ℕ × ℕ)). record a {
      year = b.year;
      month = b.month;
      week = b.week;
      day = b.day;
      hour = b.hour;
      minute =
          b.minute;
      second = b.second;
      nth = b.nth;
      nth_back = x;
    })
    (place_equal a.nth_back b.nth_back nth_back.0)
    ∙ ap (λ (x : ℕ). record a {
      year = b.year;
      month = b.month;
      week = b.week;
      day = b.day;
      hour = b.hour;
      minute = b.minute;
      second = b.second;
      nth = b.nth;
      nth_back = b.nth_back;
      weekdays = x;
    })
    (eqb-true a.weekdays b.weekdays nth_back.1)

start_same : (a : StartParts) → same_start a a ≡ true
start_same a =
    and_so (same_number a.year a.year) _ (number_same a.year)
    (and_so (same_number a.month a.month) _ (number_same a.month)
    (and_so (same_number a.week a.week) _ (number_same a.week)
    (and_so (same_number a.day a.day) _ (number_same a.day)
    (and_so (same_number a.hour a.hour) _ (number_same a.hour)
    (and_so (same_number a.minute a.minute) _ (number_same a.minute)
    (and_so (same_number a.second a.second) _ (number_same a.second)
    (and_so (same_place a.nth a.nth) _ (place_same a.nth)
    (and_so (same_place a.nth_back a.nth_back) _ (place_same a.nth_back)
    (eq-eqb a.weekdays a.weekdays refl)))))))))

duration_equal : (a b : DurationParts) → same_duration a b ≡ true → a ≡ b
duration_equal a b h =
    let years = both _ _ h in
    let months = both _ _ years.1 in
    let weeks = both _ _ months.1 in
    let days = both _ _ weeks.1 in
    let hours = both _ _ days.1 in
    let minutes = both _ _ hours.1 in
    ap (λ (x : ℕ). record a { years = x }) (eqb-true a.years b.years years.0)
    ∙ ap (λ (x : ℕ). record a { years = b.years; months = x }) (eqb-true a.months b.months months.0)
    ∙ ap (λ (x : ℕ). record a { years = b.years; months = b.months; weeks = x }) (eqb-true a.weeks b.weeks weeks.0)
    ∙ ap (λ (x : ℕ). record a { years = b.years; months = b.months; weeks = b.weeks; days = x })
    (eqb-true a.days b.days days.0)
    ∙ ap (λ (x : ℕ). record a { years = b.years; months = b.months; weeks = b.weeks; days = b.days; hours = x })
    (eqb-true a.hours b.hours hours.0)
    ∙ ap (λ (x : ℕ). record a {
      years = b.years;
      months = b.months;
      weeks = b.weeks;
      days = b.days;
      hours = b.hours;
      minutes =
          x;
    })
    (eqb-true a.minutes b.minutes minutes.0)
    ∙ ap (λ (x : ℕ). record a {
      years = b.years;
      months = b.months;
      weeks = b.weeks;
      days = b.days;
      hours = b.hours;
      minutes =
          b.minutes;
      seconds = x;
    })
    (eqb-true a.seconds b.seconds minutes.1)

duration_same : (a : DurationParts) → same_duration a a ≡ true
duration_same a =
    and_so ((a.years == a.years)) _ (eq-eqb a.years a.years refl)
    (and_so ((a.months == a.months)) _ (eq-eqb a.months a.months refl)
    (and_so ((a.weeks == a.weeks)) _ (eq-eqb a.weeks a.weeks refl)
    (and_so ((a.days == a.days)) _ (eq-eqb a.days a.days refl)
    (and_so ((a.hours == a.hours)) _ (eq-eqb a.hours a.hours refl)
    (and_so ((a.minutes == a.minutes)) _ (eq-eqb a.minutes a.minutes refl)
    (eq-eqb a.seconds a.seconds refl))))))

op_equal : (a b : Op) → same_op a b ≡ true → a ≡ b
op_equal Union Union h = refl
op_equal Meet Meet h = refl
op_equal Minus Minus h = refl
op_equal Union Meet h = absurd (false≢true h)
op_equal Union Minus h = absurd (false≢true h)
op_equal Meet Union h = absurd (false≢true h)
op_equal Meet Minus h = absurd (false≢true h)
op_equal Minus Union h = absurd (false≢true h)
op_equal Minus Meet h = absurd (false≢true h)

op_same : (a : Op) → same_op a a ≡ true
op_same Union = refl
op_same Meet = refl
op_same Minus = refl

pub tree_equal : (a b : Tree) → same_tree a b ≡ true → a ≡ b
tree_equal (Single s d) (Single s' d') h =
    let parts = both (same_start s s') (same_duration d d') h in
    ap (λ (x : StartParts). Single x d) (start_equal s s' parts.0)
    ∙ ap (λ (x : DurationParts). Single s' x) (duration_equal d d' parts.1)
tree_equal (Joined op l r) (Joined op' l' r') h =
    let parts = both (same_op op op') (same_tree l l' && same_tree r r') h in
    let sides = both (same_tree l l') (same_tree r r') parts.1 in
    ap (λ (x : Op). Joined x l r) (op_equal op op' parts.0)
    ∙ ap (λ (x : Tree). Joined op' x r) (tree_equal l l' sides.0)
    ∙ ap (λ (x : Tree). Joined op' l' x) (tree_equal r r' sides.1)
tree_equal (Single s d) (Joined op l r) h = absurd (false≢true h)
tree_equal (Joined op l r) (Single s d) h = absurd (false≢true h)

pub tree_same : (a : Tree) → same_tree a a ≡ true
tree_same (Single s d) = and_so (same_start s s) (same_duration d d) (start_same s) (duration_same d)
tree_same (Joined op l r) =
    and_so (same_op op op) _ (op_same op) (and_so (same_tree l l) (same_tree r r) (tree_same l) (tree_same r))

pub equal_same : (a b : Tree) → a ≡ b → same_tree a b ≡ true
equal_same a b e = ap (λ (x : Tree). same_tree a x) (sym e) ∙ tree_same a

pub tree_equivalence : IsEquivalence same_tree
tree_equivalence = record {
  refl = tree_same;
  symm = λ x y. both_ways (same_tree x y) (same_tree y x)
      (λ h. equal_same y x (sym (tree_equal x y h))) (λ h. equal_same x y (sym (tree_equal y x h)));
  congr = λ x y z h. ap (λ (t : Tree). same_tree t z) (tree_equal x y h);
}

pub tree_partial_equivalence : IsPartialEquivalence same_tree
tree_partial_equivalence = partial_equiv_from_equiv tree_equivalence

-- a test that holds exactly if two values are equal
decided : (r t : Bool) (P : Type 0) → (IsTrue r ↔ P) → (t ≡ true → P) → (P → t ≡ true) → r ≡ t
decided r t P h f g = both_ways r t (λ e. g (h.0 e)) (λ e. h.1 (f e))

pub start_decided : (r : Bool) (a b : StartParts) → (IsTrue r ↔ (a ≡ b)) → r ≡ same_start a b
start_decided r a b h = decided r (same_start a b) (a ≡ b) h (start_equal a b)
    (λ e. ap (λ (x : StartParts). same_start a x) (sym e) ∙ start_same a)

pub duration_decided : (r : Bool) (a b : DurationParts) → (IsTrue r ↔ (a ≡ b)) → r ≡ same_duration a b
duration_decided r a b h = decided r (same_duration a b) (a ≡ b) h (duration_equal a b)
    (λ e. ap (λ (x : DurationParts). same_duration a x) (sym e) ∙ duration_same a)
