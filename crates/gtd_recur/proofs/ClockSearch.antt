-- What a clock shows, and the first time from a second on that it shows it.
use Rattle.std.proofs.Common.{◌≡◌, ℕ, ◌+◌, ◌*◌, ◌/◌, ◌%◌, ◌<◌, ◌≤◌, Bool, true, false, Option, Some, None, refl, sym, ◌∙◌}
use Rattle.std.proofs.Common.{arith, rules, is_some, ◌||◌, ◌==◌, ◌⊎◌, inl, inr}
use Rattle.std.proofs.lemmas.Bool.{and_parts, and_from, both_ways, false_from_ne_true, eqb-true, eq-eqb, cases_lt}
use Rattle.std.specs.Option.{IsSome, unwrap_or}
use Rattle.gtd_core.specs.Limits.{last_second_of_day}
use Rattle.gtd_core.specs.Ranges.{IsStart, IsWithin}
use Rattle.gtd_core.specs.declared.start.StartParts.{StartParts}
use Rattle.gtd_recur.specs.Begins.{agrees, agrees_or_least, begins_at}
use Rattle.gtd_recur.specs.ClockSearch.{held, shows, minute_fits as fits_minute, IsNextPassing, IsLastPassing}
use Rattle.gtd_recur.specs.ClockSearch.{IsSixtiesWithin}

pub shows-parts : (h m : Option ℕ) (s k : ℕ) → shows h m s k ≡ true → (agrees h (k / 3600) ≡ true)
    × (agrees m (k / 60 % 60) ≡ true) × (s ≡ k % 60)
unfolding shows
shows-parts h m s k e =
    let outer = and_parts _ _ e in
    let inner = and_parts _ _ outer.1 in
    (outer.0, inner.0, eqb-true _ _ inner.1)

pub shows-from : (h m : Option ℕ) (s k : ℕ) → agrees h (k / 3600) ≡ true → agrees m (k / 60 % 60) ≡ true → s ≡ k % 60
    → shows h m s k ≡ true
unfolding shows
shows-from h m s k p q e = and_from _ _ p (and_from _ _ q (eq-eqb _ _ e))

pub agrees-is : (h v : ℕ) → agrees (Some h) v ≡ true → h ≡ v
agrees-is h v e = eqb-true h v e

-- a value that is given, or 0
abbrev pub or_zero : Option ℕ → ℕ
or_zero o = unwrap_or o 0

minute_small : (m : Option ℕ) → IsWithin 0 59 m → or_zero m < 60
minute_small None v = omega arith
minute_small (Some y) v = omega arith

level : (given : Option ℕ) (finer : Bool) (v : ℕ) → agrees_or_least given finer 0 v ≡ agrees (held given finer) v
level (Some x) finer v = refl
level None true v = refl
level None false v = refl

-- the seconds at which a start begins are those at which the clock shows the values that its levels are held at
pub held_shows : (p : StartParts) (finer : Bool) (s : ℕ) → finer ≡ (is_some p.minute || is_some p.second) → s ≡ or_zero p.second
    → (k : ℕ) → shows (held p.hour finer) (held p.minute (is_some p.second)) s k ≡ begins_at p k
unfolding shows
held_shows p finer s is second k =
    rw (
      is,
      level p.hour (is_some p.minute || is_some p.second) (k / 3600),
      level p.minute (is_some p.second) (k / 60 % 60),
      second_level p.second (k % 60),
      second,
    ) refl
  where
    second_level : (given : Option ℕ) (v : ℕ) → agrees_or_least given false 0 v ≡ (or_zero given == v)
    second_level (Some x) v = refl
    second_level None v = refl

-- an hour that is neither before nor after the one wanted fits
pub in_hour : (given : Option ℕ) (h k v : ℕ) → given ≡ Some h → given ≡ Some k → h ≤ v → v ≤ k → agrees given v ≡ true
in_hour given h k v e f low high =
    let same : h ≡ k = some_same h k (sym e ∙ f) in
    rw e (eq-eqb _ _ (omega arith))
  where
    some_same : (a b : ℕ) → Some a ≡ Some b → a ≡ b
    some_same a b e = cc

pub or_else : (a b r : Bool) → ((a ≡ true) × (r ≡ true)) ⊎ ((a ≡ false) × (r ≡ b)) → r ≡ (a || b)
or_else a b r h = elim h [ inl k ↦ rw (k.0, k.1) refl | inr k ↦ rw (k.0, k.1) refl ]

-- the minutes, counted from midnight, of the seconds up to one that are shown
pub record IsLastMinute (m : Option ℕ) (s limit r : ℕ) : Type 0 where
  pub reached : 60 * r + s ≤ limit
  pub fits : agrees m (r % 60) ≡ true
  pub most : (j : ℕ) → j ≤ limit → agrees m (j / 60 % 60) ≡ true → s ≡ j % 60 → j / 60 ≤ r

pub last_minute : (m : Option ℕ) (s limit i r : ℕ) → s < 60 → IsSixtiesWithin limit s (Some i)
    → IsLastPassing (fits_minute m) i (Some r) → IsLastMinute m s limit r
last_minute m s limit i r low within last = record {
  reached = (let a = within.0 in let b = last.0 in omega (arith, a, b));
  fits = last.1;
  most = λ j le on e. elim (cases_lt r (j / 60)) [
    | inl lt ↦ absurd (both_ways _ (last.2 (j / 60) lt (let a = within.1 in omega (arith, a, e, le))) on)
    | inr ge ↦ omega arith
  ];
}

pub no_second : (h m : Option ℕ) (s limit : ℕ) → limit < s → IsLastPassing (shows h m s) limit None
no_second h m s limit lt j le = false_from_ne_true _ (λ on. let parts = shows-parts h m s j on in let e = parts.2 in omega arith)

pub no_minute : (h m : Option ℕ) (s limit i : ℕ) → IsSixtiesWithin limit s (Some i) → IsLastPassing (fits_minute m) i None
    → IsLastPassing (shows h m s) limit None
no_minute h m s limit i within none j le = false_from_ne_true _ (λ on.
    let parts = shows-parts h m s j on in
    both_ways _ (none (j / 60) (let a = within.1 in let e = parts.2 in omega (arith, a, e, le))) parts.1)

minute_most : (m : Option ℕ) (x : ℕ) → x < 60 → agrees m x ≡ true → x ≤ unwrap_or m 59
minute_most None x low e = omega arith
minute_most (Some y) x low e = let is = agrees-is y x e in omega arith

last_fits : (m : Option ℕ) (x : ℕ) → x ≡ unwrap_or m 59 → agrees m x ≡ true
last_fits None x e = refl
last_fits (Some y) x e = eq-eqb _ _ (sym e)

last_small : (m : Option ℕ) → IsWithin 0 59 m → unwrap_or m 59 < 60
last_small None v = omega arith
last_small (Some y) v = omega arith

pub after_hour : (h : ℕ) (m : Option ℕ) (s limit r last : ℕ) → s < 60 → IsWithin 0 59 m → IsLastMinute m s limit r → h < r / 60
    → last ≡ unwrap_or m 59
    → IsLastPassing (shows (Some h) m s) limit (Some (3600 * h + 60 * last + s))
after_hour h m s limit r last low valid is after e =
    let fits = last_small m valid in
    let reached = is.reached in
    let is_hour : (3600 * h + 60 * last + s) / 3600 ≡ h = omega arith in
    let is_minute : (3600 * h + 60 * last + s) / 60 % 60 ≡ last = omega arith in (
      omega arith,
      shows-from (Some h) m s (3600 * h + 60 * last + s) (eq-eqb _ _ (sym is_hour)) (rw is_minute (last_fits m last e))
          (omega arith),
      λ j lt le. false_from_ne_true _ (λ on.
          let parts = shows-parts (Some h) m s j on in
          let hour = agrees-is h (j / 3600) parts.0 in
          let minute = minute_most m (j / 60 % 60) (omega arith) parts.1 in
          let second = parts.2 in
          omega arith),
    )

pub before_hour : (h : ℕ) (m : Option ℕ) (s limit r : ℕ) → IsLastMinute m s limit r → r / 60 < h
    → IsLastPassing (shows (Some h) m s) limit None
before_hour h m s limit r is before j le = false_from_ne_true _ (λ on.
    let parts = shows-parts (Some h) m s j on in
    let hour = agrees-is h (j / 3600) parts.0 in
    let most = is.most j le parts.1 parts.2 in
    omega arith)

pub within_hour : (h m : Option ℕ) (s limit r : ℕ) → s < 60 → IsLastMinute m s limit r → agrees h (r / 60) ≡ true
    → IsLastPassing (shows h m s) limit (Some (60 * r + s))
within_hour h m s limit r low is hour =
    let is_hour : (60 * r + s) / 3600 ≡ r / 60 = omega arith in
    let is_minute : (60 * r + s) / 60 % 60 ≡ r % 60 = omega arith in (
      is.reached,
      shows-from h m s (60 * r + s) (rw is_hour hour) (rw is_minute is.fits) (omega arith),
      λ j lt le. false_from_ne_true _ (λ on.
          let parts = shows-parts h m s j on in
          let most = is.most j le parts.1 parts.2 in
          let second = parts.2 in
          omega arith),
    )

same_last : (f g : ℕ → Bool) (limit : ℕ) (o : Option ℕ) → ((k : ℕ) → f k ≡ g k) → IsLastPassing f limit o
    → IsLastPassing g limit o
same_last f g limit None same h = λ j le. sym (same j) ∙ h j le
same_last f g limit (Some k) same h = (h.0, sym (same k) ∙ h.1, λ j lt le. sym (same j) ∙ h.2 j lt le)

pub held_last : (p : StartParts) (finer : Bool) (limit s : ℕ) (o : Option ℕ) → finer ≡ (is_some p.minute || is_some p.second) → s
    ≡ or_zero p.second
    → IsLastPassing (shows (held p.hour finer) (held p.minute (is_some p.second)) s) limit o → IsLastPassing (begins_at p) limit o
held_last p finer limit s o is second h = same_last _ _ limit o (held_shows p finer s is second) h

-- the first second of a day at which a start begins: what is left out of its clock is at 0
level_least : (given : Option ℕ) (finer : Bool) (v : ℕ) → v ≡ or_zero given → agrees_or_least given finer 0 v ≡ true
level_least (Some x) finer v e = eq-eqb _ _ (sym e)
level_least None true v e = refl
level_least None false v e = eq-eqb _ _ (sym e)

level_low : (given : Option ℕ) (finer : Bool) (v : ℕ) → agrees_or_least given finer 0 v ≡ true → or_zero given ≤ v
level_low (Some x) finer v on = let is = eqb-true x v on in omega (arith, is)
level_low None finer v on = omega arith

hour_small : (h : Option ℕ) → IsWithin 0 23 h → or_zero h < 24
hour_small None v = omega arith
hour_small (Some y) v = omega arith

-- the values of its clock, with 0 for those that are left out
pub record AreLeast (p : StartParts) (h m s : ℕ) : Type 0 where
  pub hour : h ≡ or_zero p.hour
  pub minute : m ≡ or_zero p.minute
  pub second : s ≡ or_zero p.second

pub least_small : (p : StartParts) (h m s : ℕ) → IsStart p → AreLeast p h m s → (h < 24) × (m < 60) × (s < 60)
least_small p h m s v l = (
  rw (l.hour) (hour_small p.hour v.hour),
  rw (l.minute) (minute_small p.minute v.minute),
  rw (l.second) (minute_small p.second v.second),
)

pub first_clock : (p : StartParts) (h m s : ℕ) → IsStart p → AreLeast p h m s
    → IsNextPassing (begins_at p) 0 (Some (3600 * h + 60 * m + s))
first_clock p h m s v l =
    let k = 3600 * h + 60 * m + s in
    let small = least_small p h m s v l in
    let is_hour : k / 3600 ≡ h = omega (arith, small.1, small.2) in
    let is_minute : k / 60 % 60 ≡ m = omega (arith, small.1, small.2) in
    let is_second : k % 60 ≡ s = omega (arith, small.2) in (
      omega arith,
      omega (arith, small.0, small.1, small.2),
      and_from _ _ (level_least p.hour _ (k / 3600) (is_hour ∙ l.hour)) (and_from _ _
          (level_least p.minute _ (k / 60 % 60) (is_minute ∙ l.minute))
          (level_least p.second false (k % 60) (is_second ∙ l.second))),
      λ j ge lt. false_from_ne_true _ (λ on.
          let outer = and_parts _ _ on in
          let inner = and_parts _ _ outer.1 in
          let low = level_low p.hour _ (j / 3600) outer.0 in
          let mid = level_low p.minute _ (j / 60 % 60) inner.0 in
          let end = level_low p.second false (j % 60) inner.1 in
          let hour = l.hour in let minute = l.minute in let second = l.second in
          omega (arith, low, mid, end, hour, minute, second, lt)),
    )

-- it has a last one too
pub last_is_some : (p : StartParts) → IsStart p → (o : Option ℕ) → IsLastPassing (begins_at p) last_second_of_day o → IsSome o
last_is_some p v (Some k) h = search rules
last_is_some p v None h =
    let first = first_clock p _ _ _ v (record { hour = refl; minute = refl; second = refl }) in
    absurd (both_ways _ (h _ (omega (arith, first.1))) first.2)
