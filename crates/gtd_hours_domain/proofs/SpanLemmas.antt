-- Days that are moved by a clock, and the spans of time on them.
use Rattle.std.proofs.Common.{true, false, ◌==◌, ◌≡◌, ◌↔◌, ◌⊎◌, ℕ, ◌+◌, ◌*◌, ◌<◌, ◌≤◌, refl, sym, inl, inr, arith, ℤ}
use Rattle.std.proofs.Common.{pos, ◌+ℤ◌, ◌-ℤ◌, ◌*ℤ◌, ◌≤ℤ◌, ◌<ℤ◌, unsigned_abs, List, [], ◌∷◌, length}
use Rattle.gtd_calendar.specs.facts.Signed.{signed_arith, one_part}
use Rattle.gtd_core.specs.Seconds.{IsOnDay, day_of_second}
use Rattle.gtd_calendar.specs.Clock.{second_of_day}
use Rattle.gtd_calendar.specs.facts.ClockLemmas.{second-parts, second-only}
use Rattle.std.proofs.lemmas.Bool.{cases_lt, eqb-true, false≢true}
use Rattle.gtd_hours_domain.specs.Translation.{SomeEarly, SomeLate}
use Rattle.gtd_hours_leaves.specs.Leaves.{moved_day, moved_place}
use Rattle.gtd_hours.specs.Opening.{InSpans, IsBetween, IsOnMatch, Matches, SomeTime}
use Rattle.gtd_hours.specs.Ranges.{end_of}
use Rattle.gtd_hours.specs.declared.hours.Kind.{Kind}
use Rattle.gtd_hours.specs.declared.hours.TimeRange.{TimeRange}

-- a second is between two minutes of a day if the day, moved by the first, is its day, and its place is low
pub between-moved : (n : ℤ) (a long : ℕ) (s : ℤ) → long ≤ 1440
    → IsBetween n a (a + long) s ↔ ((moved_day a s ≡ n) × (moved_place a s < 60 * long))
between-moved n a long s most =
    let parts = second-parts (s -ℤ pos (60 * a)) in (
      (λ h.
          let there = placed s n a long most h.0 h.1 in
          let is = second-only (s -ℤ pos (60 * a)) n there.0 there.1 there.3 in
          (is.0, rw is.1 there.2)),
      (λ y. lies s (moved_day a s) n a long (moved_place a s) parts.0 y.0 y.1),
    )
  where
    placed : (s n : ℤ) (a long : ℕ) → long ≤ 1440 → (pos 86400 *ℤ n +ℤ pos (60 * a)) ≤ℤ s
        → s <ℤ (pos 86400 *ℤ n +ℤ pos (60 * (a + long)))
        → (j : ℕ) × (j < 86400) × (j < 60 * long) × (s -ℤ pos (60 * a) ≡ pos 86400 *ℤ n +ℤ pos j)
    placed s n a long most le lt =
        let part = one_part ((s -ℤ pos (60 * a)) -ℤ pos 86400 *ℤ n) in (
          unsigned_abs ((s -ℤ pos (60 * a)) -ℤ pos 86400 *ℤ n),
          omega (arith, signed_arith),
          omega (arith, signed_arith),
          omega
              (arith, signed_arith),
        )

    lies : (s m n : ℤ) (a long k : ℕ) → s -ℤ pos (60 * a) ≡ pos 86400 *ℤ m +ℤ pos k → m ≡ n → k < 60 * long
        → ((pos 86400 *ℤ n +ℤ pos (60 * a)) ≤ℤ s) × (s <ℤ (pos 86400 *ℤ n +ℤ pos (60 * (a + long))))
    lies s m n a long k e same lt = (omega (arith, signed_arith), omega (arith, signed_arith))

-- the spans of one range of times
pub time-spans : (days : ℤ → Type 0) (a b long : ℕ) (s : ℤ) → a + long ≡ b → long ≤ 1440
    → (days (moved_day a s) × (moved_place a s < 60 * long)) ↔ ((n : ℤ) × days n × IsBetween n a b s)
time-spans days a b long s e most =
    rw (← e) (
      (λ h. (moved_day a s, h.0, (between-moved (moved_day a s) a long s most).1 (refl, h.1))),
      (λ x. let is = (between-moved x.0 a long s most).0 x.2 in (rw is.0 x.1, is.1)),
    )

-- all of the days
pub whole-days : (days : ℤ → Type 0) (s : ℤ) → days (moved_day 0 s) ↔ ((n : ℤ) × days n × IsBetween n 0 1440 s)
whole-days days s =
    let all = time-spans days 0 1440 1440 s (omega arith) (omega arith) in
    let low = (second-parts (s -ℤ pos (60 * 0))).1 in
    ((λ h. all.0 (h, low)), (λ x. (all.1 x).0))

-- without a clock nothing is moved
pub unmoved : (s : ℤ) → moved_day 0 s ≡ day_of_second s
unmoved s = let same : s -ℤ pos (60 * 0) ≡ s = omega (arith, signed_arith) in rw same refl

-- days and minutes of each day together are the spans of a range
pub spans-of : (e d k : Type 0) (days : ℤ → Type 0) (m a b long : ℕ) (s : ℤ) → (e ↔ (d × k)) → (d ↔ days (moved_day m s))
    → (k ↔ (moved_place m s < 60 * long)) → m ≡ a → a + long ≡ b → long ≤ 1440 → e ↔ ((n : ℤ) × days n × IsBetween n a b s)
spans-of e d k days m a b long s both on at same sum most =
    let all = time-spans days a b long s sum most in
    let moved = rw same at on in
    let place = rw same at at in (
      (λ h. let x = both.0 h in all.0 (moved.0 x.0, place.0 x.1)),
      (λ x. let y = all.1 x in both.1 (moved.1 y.0, place.1 y.1)),
    )

-- a second before the end of a day, and not before its begin, is of that day
pub own : (s n : ℤ) (a b : ℕ) → IsBetween n a b s → b ≤ 1440 → day_of_second s ≡ n
own s n a b h early =
    let parts = second-parts s in
    same s n (day_of_second s) a b (second_of_day s) h.0 h.1 early parts.0 parts.1
  where
    same : (s n m : ℤ) (a b k : ℕ) → (pos 86400 *ℤ n +ℤ pos (60 * a)) ≤ℤ s → s <ℤ (pos 86400 *ℤ n +ℤ pos (60 * b)) → b ≤ 1440
        → s ≡ pos 86400 *ℤ m +ℤ pos k → k < 86400 → m ≡ n
    same s n m a b k p q r e low = omega (arith, signed_arith)

-- on one day the minutes of each day are those of a range that ends on its day
pub early-clock : (k : Type 0) (m a b long : ℕ) (s : ℤ) → (k ↔ (moved_place m s < 60 * long)) → m ≡ a → a + long ≡ b → b ≤ 1440
    → k ↔ ((b ≤ 1440) × IsBetween (day_of_second s) a b s)
early-clock k m a b long s at same sum early =
    let all = time-spans (λ n. Unit {0}) a b long s sum (omega arith) in
    let place = rw same at at in (
      (λ h. let x = all.0 (tt, place.0 h) in (early, rw (own s x.0 a b x.2 early) x.2)),
      (λ x. place.1 (all.1 (day_of_second s, tt, x.1)).1),
    )

-- one more range that ends on a later day
pub one_more-late : (v u r : Type 0) (days : ℤ → Type 0) (t : TimeRange) (ts rest : List TimeRange) (s : ℤ) → rest ≡ t ∷ ts
    → (v ↔ (u ⊎ ((n : ℤ) × days n × ((1440 < end_of t.begin t.last) × IsBetween n t.begin (end_of t.begin t.last) s))))
    → ((u ⊎ ((n : ℤ) × days n × SomeLate rest n s)) ↔ r) → ((v ⊎ ((n : ℤ) × days n × SomeLate ts n s)) ↔ r)
one_more-late v u r days t ts rest s same one all =
    let each = rw same at all in (
      (λ h. each.0 (elim h [
        | inl x ↦ elim (one.0 x) [ inl y ↦ inl y | inr z ↦ inr (z.0, z.1, inl z.2) ]
        | inr x ↦ inr (x.0, x.1, inr x.2)
      ])),
      (λ h. elim (each.1 h) [
        | inl x ↦ inl (one.1 (inl x))
        | inr x ↦ elim (x.2) [ inl z ↦ inl (one.1 (inr (x.0, x.1, z))) | inr z ↦ inr (x.0, x.1, z) ]
      ]),
    )

-- each range ends on its day or on a later one
pub early-or-late : (ts : List TimeRange) (n s : ℤ) → SomeTime ts n s ↔ (SomeEarly ts n s ⊎ SomeLate ts n s)
early-or-late [] n s = ((λ h. absurd h), (λ h. elim h [ inl x ↦ x | inr x ↦ x ]))
early-or-late (t ∷ ts) n s =
    let more = early-or-late ts n s in (
      (λ h. elim h [
        | inl x ↦ elim (cases_lt 1440 (end_of t.begin t.last))
            [ inl late ↦ inr (inl (late, x)) | inr early ↦ inl (inl (early, x)) ]
        | inr x ↦ elim (more.0 x) [ inl y ↦ inl (inr y) | inr y ↦ inr (inr y) ]
      ]),
      (λ h. elim h [
        | inl x ↦ elim x [ inl y ↦ inl y.1 | inr y ↦ inr (more.1 (inl y)) ]
        | inr x ↦ elim x [ inl y ↦ inl y.1 | inr y ↦ inr (more.1 (inr y)) ]
      ]),
    )

-- a range that ends on its day holds seconds of that day alone
pub early-own : (ts : List TimeRange) (n s : ℤ) → SomeEarly ts n s → n ≡ day_of_second s
early-own [] n s h = absurd h
early-own (t ∷ ts) n s h = elim h [ inl x ↦ sym (own s n t.begin (end_of t.begin t.last) x.1 x.0) | inr x ↦ early-own ts n s x ]

-- the spans of a rule without times, and of one with some
pub no_times : (e : Type 0) (kinds : List Kind) (times : List TimeRange) (m : ℕ) (s : ℤ) → (length times == 0) ≡ true → m ≡ 0
    → (e ↔ Matches kinds (moved_day m s)) → e ↔ InSpans kinds times s
no_times e kinds [] m s none same h =
    let whole = whole-days (Matches kinds) s in
    let all = rw same at h in
    ((λ x. whole.0 (all.0 x)), (λ x. all.1 (whole.1 x)))
no_times e kinds (t ∷ ts) m s none same h =
    absurd (let k : length (t ∷ ts) ≡ 0 = eqb-true (length (t ∷ ts)) 0 none in omega (arith, k))

pub some_times : (e f g : Type 0) (kinds : List Kind) (times : List TimeRange) (s : ℤ) → (length times == 0) ≡ false
    → (f ↔ (Matches kinds (day_of_second s) × SomeEarly times (day_of_second s) s))
    → (g ↔ (f ⊎ ((n : ℤ) × Matches kinds n × SomeLate times n s))) → (e ↔ g) → e ↔ InSpans kinds times s
some_times e f g kinds [] s some early late all = absurd (false≢true (sym some))
some_times e f g kinds (t ∷ ts) s some early late all = (
  (λ h. elim (late.0 (all.0 h)) [
    | inl x ↦ let y = early.0 x in (day_of_second s, y.0, (early-or-late (t ∷ ts) (day_of_second s) s).1 (inl y.1))
    | inr x ↦ (x.0, x.1, (early-or-late (t ∷ ts) x.0 s).1 (inr x.2))
  ]),
  (λ x. all.1 (late.1 (elim ((early-or-late (t ∷ ts) x.0 s).0 x.2) [
    | inl y ↦ let e : x.0 ≡ day_of_second s = early-own (t ∷ ts) x.0 s y in inl (early.1 (rw e at x.1, rw e at y))
    | inr y ↦ inr (x.0, x.1, y)
  ]))),
)

-- a second is on a day that matches if the day that is computed does
pub on-match : (kinds : List Kind) (s : ℤ) → Matches kinds (day_of_second s) ↔ IsOnMatch kinds s
unfolding day_of_second
on-match kinds s = (
  (λ h. (day_of_second s, (omega (arith, signed_arith), omega (arith, signed_arith)), h)),
  (λ h. rw (same s h.0 h.1) h.2),
)
  where
    same : (s n : ℤ) → IsOnDay s n → day_of_second s ≡ n
    same s n on = omega (arith, signed_arith, on.0, on.1)

-- what was there, without the days of a rule
pub kept-days : (k d b : Type 0) (kinds : List Kind) (m : ℕ) (s : ℤ) → m ≡ 0 → (d ↔ Matches kinds (moved_day m s))
    → (k ↔ (b × (d → ⊥))) → k ↔ (b × (IsOnMatch kinds s → ⊥))
kept-days k d b kinds m s same on kept =
    let here = rw (unmoved s) at (rw same at on) in
    let is = on-match kinds s in (
      (λ h. let y = kept.0 h in (y.0, λ z. y.1 (here.1 (is.1 z)))),
      (λ x. kept.1 (x.0, λ z. x.1 (is.0 (here.0 z)))),
    )

pub or-same : (e b p q : Type 0) → (p ↔ q) → (e ↔ (b ⊎ p)) → e ↔ (b ⊎ q)
or-same e b p q same all = (
  (λ h. elim (all.0 h) [ inl x ↦ inl x | inr x ↦ inr (same.0 x) ]),
  (λ h. all.1 (elim h [ inl x ↦ inl x | inr x ↦ inr (same.1 x) ])),
)

-- the days, from midnight on, and the minutes of each day
pub early-days : (e d k : Type 0) (kinds : List Kind) (ts : List TimeRange) (m : ℕ) (s : ℤ) → m ≡ 0
    → (d ↔ Matches kinds (moved_day m s))
    → (k ↔ SomeEarly ts (day_of_second s) s) → (e ↔ (d × k))
    → e ↔ (Matches kinds (day_of_second s) × SomeEarly ts (day_of_second s) s)
early-days e d k kinds ts m s same on minutes both =
    let here = rw (unmoved s) at (rw same at on) in (
      (λ h. let x = both.0 h in (here.0 x.0, minutes.0 x.1)),
      (λ x. both.1 (here.1 x.0, minutes.1 x.1)),
    )

-- what is united so far is all, if no range is left
pub none-late : (u r : Type 0) (days : ℤ → Type 0) (rest : List TimeRange) (s : ℤ) → rest ≡ []
    → ((u ⊎ ((n : ℤ) × days n × SomeLate rest n s)) ↔ r) → u ↔ r
none-late u r days rest s same all =
    let each = rw same at all in (
      (λ h. each.0 (inl h)),
      (λ h. elim (each.1 h) [ inl x ↦ x | inr x ↦ absurd x.2 ]),
    )
