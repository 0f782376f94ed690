-- Ranges of times, one after another: for `plain_times` and what it calls.
use Rattle.std.proofs.Common.{◌≡◌, ◌∙◌, refl, sym, ap, subst, arith, ◌⊎◌, inl, inr, ◌↔◌, ℕ, ℤ, ◌+◌, ◌-◌, ◌%◌, ◌<◌, ◌≤◌}
use Rattle.std.proofs.Common.{Bool, true, false, ◌||◌, List, [], ◌∷◌, ◌++◌}
use Rattle.std.specs.Prelude.{if◌then◌else◌, Option, Result, Ok, Err, OnOk, length}
use Rattle.std.proofs.Math.Nat.{add-mod_right, mod-add-mod, mod-eq_of_lt, zero-mod}
use Rattle.std.proofs.lemmas.Bool.{cases_lt, lt-ltb}
use Rattle.gtd_hours.specs.Opening as plain
use Rattle.gtd_hours.specs.Ranges.{end_of}
use Rattle.gtd_hours.specs.declared.hours.TimeRange.{TimeRange}
use Rattle.gtd_hours2.specs.Opening.{Clocks, InPart, InPoints, InTime, IsBetween, IsTimeOn, SomeTime, minute_of}
use Rattle.gtd_hours2.specs.Rules.{has_kind, is_of}
use Rattle.gtd_hours2.specs.declared.values.PartKind.TheVariants as kind
use Rattle.gtd_hours2.specs.declared.values.RulePart.{RulePart}
use Rattle.gtd_hours2.specs.declared.values.RulePart.TheVariants as part
use Rattle.gtd_hours2.specs.declared.values.TimeOfDay.{TimeOfDay}
use Rattle.gtd_hours2.specs.declared.values.TimeTail.{TimeTail}
use Rattle.gtd_hours_plain2.specs.Times.{AreAdded, AreTimes, InPointsBefore, IsWithPart, is_some_range, is_time}

-- ---- one range

pushed_some : (ts : List TimeRange) (t : TimeRange) → is_some_range (ts ++ t ∷ []) ≡ true
pushed_some [] t = refl
pushed_some (x ∷ ts) t = refl

abbrev InRange : TimeRange → ℤ → ℤ → Type 0
InRange t n s = IsBetween n t.begin (end_of t.begin t.last) s

pushed_in : (ts : List TimeRange) (t : TimeRange) (n s : ℤ) → plain.SomeTime (ts ++ t ∷ []) n s
    → plain.SomeTime ts n s ⊎ InRange t n s
pushed_in [] t n s (inl h) = inr h
pushed_in [] t n s (inr h) = absurd h
pushed_in (x ∷ ts) t n s (inl h) = inl (inl h)
pushed_in (x ∷ ts) t n s (inr h) = elim (pushed_in ts t n s h) [ inl i ↦ inl (inr i) | inr i ↦ inr i ]

pushed_old : (ts : List TimeRange) (t : TimeRange) (n s : ℤ) → plain.SomeTime ts n s → plain.SomeTime (ts ++ t ∷ []) n s
pushed_old [] t n s h = absurd h
pushed_old (x ∷ ts) t n s (inl h) = inl h
pushed_old (x ∷ ts) t n s (inr h) = inr (pushed_old ts t n s h)

pushed_new : (ts : List TimeRange) (t : TimeRange) (n s : ℤ) → InRange t n s → plain.SomeTime (ts ++ t ∷ []) n s
pushed_new [] t n s h = inl h
pushed_new (x ∷ ts) t n s h = inr (pushed_new ts t n s h)

pushed_by : (ts : List TimeRange) (t : TimeRange) (n s : ℤ) → plain.SomeTime ts n s ⊎ InRange t n s
    → plain.SomeTime (ts ++ t ∷ []) n s
pushed_by ts t n s (inl h) = pushed_old ts t n s h
pushed_by ts t n s (inr h) = pushed_new ts t n s h

added : (old : List TimeRange) (t : TimeRange) → AreAdded (InRange t) old (old ++ t ∷ [])
added old t = record { some = pushed_some old t; times = λ n s. (pushed_in old t n s, pushed_by old t n s) }

pub if_less : (begin last : ℕ) → begin < last → end_of begin last ≡ last
if_less begin last less =
    ap (λ (b : Bool). if b then last else last + 1440) (lt-ltb begin last less)

pub range_added : (old new : List TimeRange) (t : TimeRange) (begin end : ℕ) → new ≡ old ++ t ∷ [] → t.begin ≡ begin
    → t.last ≡ end → begin < end → AreAdded (λ n s. IsBetween n begin end s) old new
range_added old new t begin end is b e less =
    let last : end_of t.begin t.last ≡ end =
    ap (λ (m : ℕ). end_of m t.last) b ∙ ap (λ (m : ℕ). end_of begin m) e ∙ if_less begin end less in
    subst (AreAdded (λ n s. IsBetween n begin end s) old) (sym is)
    (subst (λ (m : ℕ). AreAdded (λ n s. IsBetween n begin m s) old (old ++ t ∷ [])) last
    (subst (λ (m : ℕ). AreAdded (λ n s. IsBetween n m (end_of t.begin t.last) s) old (old ++ t ∷ [])) b (added old t)))

pub same_end : (old new : List TimeRange) (begin end other : ℕ) → end ≡ other
    → AreAdded (λ n s. IsBetween n begin end s) old new → AreAdded (λ n s. IsBetween n begin other s) old new
same_end old new begin end other is a = subst (λ (m : ℕ). AreAdded (λ n s. IsBetween n begin m s) old new) is a

-- ---- points

-- between one point and the next there is none
at_step : (begin point p step : ℕ) → begin ≤ point → point ≤ p → p < point + step → (point - begin) % step ≡ 0
    → (p - begin) % step ≡ 0 → p ≡ point
at_step begin point p step from up less is are =
    let d = p - point in
    let split : p - begin ≡ (point - begin) + d = omega (arith, from, up) in
    let small : d % step ≡ d = mod-eq_of_lt (omega (arith, less, up)) in
    let zero : d % step ≡ 0 =
    sym (ap (λ (m : ℕ). m % step) (let e : 0 + d ≡ d = omega arith in e))
    ∙ sym (ap (λ (m : ℕ). (m + d) % step) is)
    ∙ mod-add-mod (point - begin) step d
    ∙ sym (ap (λ (m : ℕ). m % step) split)
    ∙ are in
    let none : d ≡ 0 = sym small ∙ zero in
    omega (arith, none, up)

abbrev Before : Clocks → ℕ → ℕ → ℕ → ℕ → ℤ → ℤ → Type 0
Before c begin last step m n s = InPointsBefore c begin last step m n s

abbrev At : Clocks → ℕ → ℤ → ℤ → Type 0
At c p n s = IsBetween n p (p + c.points) s

no_rest : (m step : ℕ) → (m - m) % step ≡ 0
no_rest m step = let e : m - m ≡ 0 = omega arith in rw e (zero-mod step)

one_before : (c : Clocks) (begin last step : ℕ) → 1 ≤ step → begin ≤ last → begin < 1440 → (n s : ℤ) → At c begin n s
    → Before c begin last step (begin + step) n s
one_before c begin last step some most day n s at =
    (begin, omega arith, most, omega (arith, some), day, no_rest begin step, at)

before_one : (c : Clocks) (begin last step : ℕ) → (n s : ℤ) → Before c begin last step (begin + step) n s → At c begin n s
before_one c begin last step n s h =
    subst (λ (p : ℕ). At c p n s) (at_step begin begin h.0 step (omega arith) h.1 h.3 (no_rest begin step) h.5) h.6

mapped : {A B C D : Type 0} → (A ↔ (B ⊎ C)) → (C → D) → (D → C) → A ↔ (B ⊎ D)
mapped e to from = (
  λ a. elim (e.0 a) [ inl b ↦ inl b | inr x ↦ inr (to x) ],
  λ h. e.1 (elim h [ inl b ↦ inl b | inr y ↦ inr (from y) ]),
)

pub first_point : (c : Clocks) (begin last step end : ℕ) (old new : List TimeRange) → 1 ≤ step → begin ≤ last → begin < 1440
    → end ≡ begin + c.points → AreAdded (λ n s. IsBetween n begin end s) old new
    → AreAdded (InPointsBefore c begin last step (begin + step)) old new
first_point c begin last step end old new some most day is a =
    let b = same_end old new begin end (begin + c.points) is a in record {
      some = b.some;
      times = λ n s. mapped (b.times n s) (one_before c begin last step some most day n s) (before_one c begin last step n s);
    }

next_to : (c : Clocks) (begin last step point : ℕ) → 1 ≤ step → begin ≤ point → point ≤ last → point < 1440
    → (point - begin) % step ≡ 0 → (n s : ℤ) → Before c begin last step point n s ⊎ At c point n s
    → Before c begin last step (point + step) n s
next_to c begin last step point some from most day is n s (inl h) =
    (h.0, h.1, h.2, omega (arith, h.3), h.4, h.5, h.6)
next_to c begin last step point some from most day is n s (inr at) =
    (point, from, most, omega (arith, some), day, is, at)

next_from : (c : Clocks) (begin last step point : ℕ) → begin ≤ point → (point - begin) % step ≡ 0 → (n s : ℤ)
    → Before c begin last step (point + step) n s → Before c begin last step point n s ⊎ At c point n s
next_from c begin last step point from is n s h = elim (cases_lt h.0 point) [
  | inl less ↦ inl (h.0, h.1, h.2, less, h.4, h.5, h.6)
  | inr more ↦ inr (subst (λ (p : ℕ). At c p n s) (at_step begin point h.0 step from more h.3 is h.5) h.6)
]

pub next_point : (c : Clocks) (begin last step point end : ℕ) (old so_far new : List TimeRange) → 1 ≤ step → begin ≤ point
    → point ≤ last → point < 1440 → (point - begin) % step ≡ 0 → end ≡ point + c.points
    → AreAdded (InPointsBefore c begin last step point) old so_far → AreAdded (λ n s. IsBetween n point end s) so_far new
    → AreAdded (InPointsBefore c begin last step (point + step)) old new
next_point c begin last step point end old so_far new some from most day is e before a =
    let b = same_end so_far new point end (point + c.points) e a in record {
      some = b.some;
      times = λ n s. (
        λ h. elim ((b.times n s).0 h) [
          | inl i ↦ elim ((before.times n s).0 i) [
            | inl j ↦ inl j
            | inr j ↦ inr (next_to c begin last step point some from most day is n s (inl j))
          ]
          | inr at ↦ inr (next_to c begin last step point some from most day is n s (inr at))
        ],
        λ h. (b.times n s).1 (elim h [
          | inl j ↦ inl ((before.times n s).1 (inl j))
          | inr j ↦ elim (next_from c begin last step point from is n s j) [
            | inl i ↦ inl ((before.times n s).1 (inr i))
            | inr at ↦ inr at
          ]
        ]),
      );
    }

-- the point after a point is one
pub step_on : (begin point step : ℕ) → begin ≤ point → (point - begin) % step ≡ 0 → (point + step - begin) % step ≡ 0
step_on begin point step from is =
    let split : point + step - begin ≡ (point - begin) + step = omega (arith, from) in
    rw split (add-mod_right (point - begin) step ∙ is)

pub all_points : (c : Clocks) (begin last step point : ℕ) (old new : List TimeRange) → (point ≤ last → point < 1440 → ⊥)
    → AreAdded (InPointsBefore c begin last step point) old new → AreAdded (InPoints c begin last step) old new
all_points c begin last step point old new over a = record {
  some = a.some;
  times = λ n s. mapped (a.times n s) (λ h. (h.0, h.1, h.2, h.4, h.5, h.6))
      (λ h. (h.0, h.1, h.2, before h.0 h.2 h.3, h.3, h.4, h.5));
}
  where
    before : (p : ℕ) → p ≤ last → p < 1440 → p < point
    before p most day = elim (cases_lt p point) [
      | inl less ↦ less
      | inr more ↦ absurd (over (omega (arith, more, most)) (omega (arith, more, day)))
    ]

-- ---- the same, where the step is given by another number

pub first_added : (c : Clocks) (begin last step other end : ℕ) (old new : List TimeRange) → other ≡ step → 1 ≤ step
    → begin ≤ last → begin < 1440 → end ≡ begin + c.points → AreAdded (λ n s. IsBetween n begin end s) old new
    → AreAdded (InPointsBefore c begin last step (begin + other)) old new
first_added c begin last step other end old new e some most day is a =
    subst (λ (m : ℕ). AreAdded (InPointsBefore c begin last step (begin + m)) old new) (sym e)
    (first_point c begin last step end old new some most day is a)

pub next_added : (c : Clocks) (begin last step other point end : ℕ) (old so_far new : List TimeRange) → other ≡ step → 1 ≤ step
    → begin ≤ point → point ≤ last → point < 1440 → (point - begin) % step ≡ 0 → end ≡ point + c.points
    → AreAdded (InPointsBefore c begin last step point) old so_far → AreAdded (λ n s. IsBetween n point end s) so_far new
    → AreAdded (InPointsBefore c begin last step (point + other)) old new
next_added c begin last step other point end old so_far new same some from most day is e before a =
    subst (λ (m : ℕ). AreAdded (InPointsBefore c begin last step (point + m)) old new) (sym same)
    (next_point c begin last step point end old so_far new some from most day is e before a)

pub next_is : (begin point step other : ℕ) → other ≡ step → begin ≤ point → (point - begin) % step ≡ 0
    → (point + other - begin) % step ≡ 0
next_is begin point step other same from is =
    subst (λ (m : ℕ). (point + m - begin) % step ≡ 0) (sym same) (step_on begin point step from is)

pub first_is : (begin step other : ℕ) → other ≡ step → (begin + other - begin) % step ≡ 0
first_is begin step other same = next_is begin begin step other same (omega arith) (no_rest begin step)

-- ---- the parts of a rule

pub kept_on : {A E : Type 0} → (r : Result A E) → (P Q : Type 0) → (P → Q) → OnOk r P → OnOk r Q
kept_on (Ok x) P Q f p = f p
kept_on (Err e) P Q f p = tt

or_true : (b : Bool) → (b || true) ≡ true
or_true true = refl
or_true false = refl

or_false : (b : Bool) → (b || false) ≡ b
or_false true = refl
or_false false = refl

pub time_added : (c : Clocks) (first : TimeOfDay) (last : Option TimeOfDay) (t : TimeTail) (old new : List TimeRange)
    → AreAdded (InTime c (minute_of c first) last t) old new → IsWithPart c (part.Time first last t) old new
time_added c first last t old new a = record { some = a.some ∙ sym (or_true (is_some_range old)); times = a.times }

nothing_in : {A : Type 0} → A ↔ (A ⊎ ⊥)
nothing_in = (λ a. inl a, λ h. elim h [ inl a ↦ a | inr b ↦ absurd b ])

unchanged : (c : Clocks) (x : RulePart) (ts : List TimeRange) → is_time x ≡ false → ((n s : ℤ) → InPart c x n s → ⊥)
    → IsWithPart c x ts ts
unchanged c x ts off none = record {
  some = sym (ap (λ (b : Bool). is_some_range ts || b) off ∙ or_false (is_some_range ts));
  times = λ n s. (λ h. inl h, λ h. elim h [ inl i ↦ i | inr j ↦ absurd (none n s j) ]);
}

pub no_part : (c : Clocks) (x : RulePart) (ts : List TimeRange) → is_time x ≡ false → IsWithPart c x ts ts
no_part c (part.Years first last step) ts off = unchanged c (part.Years first last step) ts refl (λ n s h. h)
no_part c (part.Months first last) ts off = unchanged c (part.Months first last) ts refl (λ n s h. h)
no_part c (part.Days first last) ts off = unchanged c (part.Days first last) ts refl (λ n s h. h)
no_part c (part.Dated year first final last) ts off = unchanged c (part.Dated year first final last) ts refl (λ n s h. h)
no_part c (part.Weeks first last step) ts off = unchanged c (part.Weeks first last step) ts refl (λ n s h. h)
no_part c (part.Holidays which offset) ts off = unchanged c (part.Holidays which offset) ts refl (λ n s h. h)
no_part c (part.Weekdays first last) ts off = unchanged c (part.Weekdays first last) ts refl (λ n s h. h)
no_part c (part.NthWeekday w n b o) ts off = unchanged c (part.NthWeekday w n b o) ts refl (λ n s h. h)
no_part c (part.Time first last t) ts off = absurd cc

not_time : (x : RulePart) → ((f : TimeOfDay) (l : Option TimeOfDay) (t : TimeTail) → x ≡ part.Time f l t → ⊥) → is_time x ≡ false
not_time (part.Years first last step) h = refl
not_time (part.Months first last) h = refl
not_time (part.Days first last) h = refl
not_time (part.Dated year first final last) h = refl
not_time (part.Weeks first last step) h = refl
not_time (part.Holidays which offset) h = refl
not_time (part.Weekdays first last) h = refl
not_time (part.NthWeekday w n b o) h = refl
not_time (part.Time first last t) h = absurd (h first last t refl)

pub other_part : (c : Clocks) (x : RulePart) (ts : List TimeRange)
    → ((f : TimeOfDay) (l : Option TimeOfDay) (t : TimeTail) → x ≡ part.Time f l t → ⊥) → IsWithPart c x ts ts
other_part c x ts h = no_part c x ts (not_time x h)

-- what holds of a time whether holidays lead or not
is_of_time : (leads : Bool) (x : RulePart) → is_of leads kind.Times x ≡ is_time x
is_of_time leads (part.Years first last step) = refl
is_of_time leads (part.Months first last) = refl
is_of_time leads (part.Days first last) = refl
is_of_time leads (part.Dated year first final last) = refl
is_of_time leads (part.Weeks first last step) = refl
is_of_time true (part.Holidays which offset) = refl
is_of_time false (part.Holidays which offset) = refl
is_of_time leads (part.Weekdays first last) = refl
is_of_time leads (part.NthWeekday w n b o) = refl
is_of_time leads (part.Time first last t) = refl

-- The ranges of the parts that were passed, and the parts that are left, hold what all parts do.
pub record AreSoFar (c : Clocks) (all rest : List RulePart) (ts : List TimeRange) : Type 0 where
  pub some : (leads : Bool) → has_kind leads kind.Times all ≡ (is_some_range ts || has_kind leads kind.Times rest)
  pub times : (n s : ℤ) → SomeTime c all n s ↔ (plain.SomeTime ts n s ⊎ SomeTime c rest n s)

pub none_so_far : (c : Clocks) (parts : List RulePart) → AreSoFar c parts parts []
none_so_far c parts = record {
  some = λ leads. refl;
  times = λ n s. (λ h. inr h, λ h. elim h [ inl i ↦ absurd i | inr j ↦ j ]);
}

or_if : (a b d : Bool) → (a || (if b then true else d)) ≡ ((a || b) || d)
or_if true b d = refl
or_if false true d = refl
or_if false false d = refl

pub part_more : (c : Clocks) (all more : List RulePart) (x : RulePart) (old new : List TimeRange)
    → AreSoFar c all (x ∷ more) old → IsWithPart c x old new → AreSoFar c all more new
part_more c all more x old new so_far w = record {
  some = λ leads.
      so_far.some leads
      ∙ ap (λ (b : Bool). is_some_range old || (if b then true else has_kind leads kind.Times more)) (is_of_time leads x)
      ∙ or_if (is_some_range old) (is_time x) (has_kind leads kind.Times more)
      ∙ sym (ap (λ (b : Bool). b || has_kind leads kind.Times more) w.some);
  times = λ n s. (
    λ h. elim ((so_far.times n s).0 h) [
      | inl i ↦ inl ((w.times n s).1 (inl i))
      | inr j ↦ elim j as (λ u. plain.SomeTime new n s ⊎ SomeTime c more n s) [
        | inl k ↦ inl ((w.times n s).1 (inr k))
        | inr k ↦ inr k
      ]
    ],
    λ h. (so_far.times n s).1 (elim h [
      | inl i ↦ elim ((w.times n s).0 i) [ inl k ↦ inl k | inr k ↦ inr (inl k) ]
      | inr j ↦ inr (inr j)
    ]),
  );
}

pub no_parts : (xs : List RulePart) → length xs ≡ 0 → xs ≡ []
no_parts [] e = refl
no_parts (x ∷ xs) e = absurd (omega (arith, e))

pub all_times : (c : Clocks) (all rest : List RulePart) (times : List TimeRange) → AreSoFar c all rest times → rest ≡ []
    → AreTimes c all times
all_times c all rest times so_far e =
    let done : AreSoFar c all [] times = subst (λ (r : List RulePart). AreSoFar c all r times) e so_far in
    λ leads n s. by times leads n s (done.some leads) (done.times n s)
  where
    by : (ts : List TimeRange) (leads : Bool) (n s : ℤ)
        → has_kind leads kind.Times all ≡ (is_some_range ts || false)
        → (SomeTime c all n s ↔ (plain.SomeTime ts n s ⊎ ⊥))
        → IsTimeOn c (has_kind leads kind.Times all) all n s ↔ plain.IsTimeOn ts n s
    by [] leads n s none same =
        subst (λ (b : Bool). IsTimeOn c b all n s ↔ plain.IsTimeOn [] n s) (sym none) (λ h. h, λ h. h)
    by (t ∷ ts) leads n s some same =
        subst (λ (b : Bool). IsTimeOn c b all n s ↔ plain.IsTimeOn (t ∷ ts) n s) (sym some)
        (λ h. elim (same.0 h) [ inl i ↦ i | inr j ↦ absurd j ], λ h. same.1 (inl h))
