-- While the date stays, a basic domain is as it is without its date.
use Rattle.std.proofs.Common.{◌≡◌, ◌↔◌, ℕ, ◌+◌, ◌*◌, ◌<◌, refl, sym, ◌∙◌, subst, ap, arith, false, true, Bool, ◌||◌}
use Rattle.std.proofs.Common.{is_some, inl}
use Rattle.std.specs.Prelude.{ℤ, pos, ◌+ℤ◌, ◌-ℤ◌, ◌*ℤ◌, ◌≤ℤ◌, ◌<ℤ◌, IsTrue}
use Rattle.std.proofs.lemmas.Int.{ints, by_lt_z}
use Rattle.gtd_core.specs.Ranges.{bound_of}
use Rattle.gtd_core.specs.Trees.{Tree, Single}
use Rattle.gtd_core.specs.declared.duration.DurationParts.{DurationParts}
use Rattle.gtd_core.specs.declared.start.StartParts.{StartParts}
use Rattle.gtd_calendar.specs.Clock.{IsStop, IsTimeOf}
use Rattle.gtd_calendar.specs.ComputedEnds.{stop}
use Rattle.gtd_calendar.specs.facts.ClockLemmas.{stop-bound}
use Rattle.gtd_calendar.specs.facts.StopLemmas.{stop-only}
use Rattle.gtd_recur.specs.Begins.{gives_clock, gives_day}
use Rattle.gtd_recur.specs.Membership.{HasNumber, HoldsOn, InStretches, Matches}
use Rattle.gtd_eval.specs.Membership.{InTree}
use Rattle.gtd_difference.specs.Dates.{clock_parts, date_parts, one_day}

-- the end of a stretch is not later than its bound says
pub ends-by : (q : DurationParts) (b end : ℤ) → IsStop q b end → end ≤ℤ (b +ℤ pos (bound_of q))
ends-by q b end is = subst (λ (e : ℤ). e ≤ℤ (b +ℤ pos (bound_of q))) (sym (stop-only q b end is)) (stop-bound q b).1

free : (week day clock : Bool) → IsTrue clock → (week || (day || true)) ≡ (week || (day || clock))
free week day true h = refl
free week day false h = cc

clash : (b : Bool) → b ≡ true → b ≡ false → ⊥
clash true h k = let e : true ≡ false = k in cc
clash false h k = let e : false ≡ true = h in cc

-- a date at the first second of the day holds on the days on which it holds at any time of the day
held-on : (p : StartParts) (n : ℤ) → IsTrue (gives_clock p) → HoldsOn (date_parts p) n → HoldsOn p n
held-on p n clock h = record {
  year = h.year;
  month = h.month;
  day = h.day;
  date = h.date;
  in_year = h.in_year;
  in_week = h.in_week;
  in_month = subst (λ (finer : Bool). HasNumber p.month finer 1 h.month)
      (free (is_some p.week) (gives_day p) (gives_clock p) clock) h.in_month;
  on_day = h.on_day;
  nth = h.nth;
  nth_back = h.nth_back;
  weekdays = h.weekdays;
  least = λ day none. absurd (clash (gives_clock p) clock none);
}

same-day : (b c m n : ℤ) (k : ℕ) → k < 86400 → c ≡ pos 86_400 *ℤ m +ℤ pos 0 → c ≤ℤ b → b <ℤ (c +ℤ pos 86400)
    → b ≡ pos 86_400 *ℤ n +ℤ pos k → m ≡ n
same-day b c m n k low first after before at = omega (arith, ints, low, first, after, before, at)

-- the day on which a second is, whose date is that of the start
pub on-date : (p : StartParts) (b n : ℤ) (hour minute second : ℕ) → IsTrue (gives_clock p) → IsTimeOf b n hour minute second
    → InStretches (date_parts p) one_day b → HoldsOn p n
unfolding InStretches
on-date p b n hour minute second clock time (c, end, (m, h, mi, s, first, on, no_hour, no_min, no_sec), stop, after, before) =
    let last = ends-by one_day c end stop in
    let zero_m : mi ≡ 0 = no_min refl in
    let zero_s : s ≡ 0 = no_sec refl in
    let k : 3600 * hour + 60 * minute + second < 86400 = omega (arith, time.clock.0, time.clock.1, time.clock.2) in
    let begin : c ≡ pos 86_400 *ℤ m +ℤ pos 0 =
    rw (← (let e : 3600 * h + 60 * mi + s ≡ 0 = omega (arith, no_hour, zero_m, zero_s) in e)) first.is in
    subst (λ (x : ℤ). HoldsOn p x)
    (same-day b c m n (3600 * hour + 60 * minute + second) k begin after (omega (arith, ints, before, last)) time.is)
    (held-on p m clock on)

-- what matches without the date matches with it on a day of the date
matches-on : (p : StartParts) (b : ℤ) → IsTrue (gives_clock p) → Matches (clock_parts p) b
    → InStretches (date_parts p) one_day b → Matches p b
matches-on p b clock (n, hour, minute, second, time, on, h, m, s) date =
    (n, hour, minute, second, time, on-date p b n hour minute second clock time date, h, m, s)

-- without the date, less is asked of a day
held-free : (p : StartParts) (n : ℤ) → IsTrue (gives_clock p) → HoldsOn p n → HoldsOn (clock_parts p) n
held-free p n clock h = record {
  year = h.year;
  month = h.month;
  day = h.day;
  date = h.date;
  in_year = λ none. tt;
  in_week = tt;
  in_month = λ none. absurd (clash (gives_clock p) clock none);
  on_day = tt;
  nth = tt;
  nth_back = tt;
  weekdays = inl refl;
  least = λ day none. absurd (clash (gives_clock p) clock none);
}

matches-free : (p : StartParts) (b : ℤ) → IsTrue (gives_clock p) → Matches p b → Matches (clock_parts p) b
matches-free p b clock (n, hour, minute, second, time, on, h, m, s) =
    (n, hour, minute, second, time, held-free p n clock on, h, m, s)

module _ (p : StartParts) (q : DurationParts) (clock : IsTrue (gives_clock p)) (t : ℤ) where
  free-of-date : InStretches p q t → InStretches (clock_parts p) q t
  unfolding InStretches
  free-of-date h = (h.0, h.1, matches-free p h.0 clock h.2, h.3, h.4, h.5)

  on-its-date : ((b : ℤ) → (t -ℤ pos (bound_of q)) ≤ℤ b → b ≤ℤ t → InStretches (date_parts p) one_day b)
      → InStretches (clock_parts p) q t → InStretches p q t
  unfolding InStretches
  on-its-date date h =
      let last = ends-by q h.0 h.1 h.3 in
      (h.0, h.1, matches-on p h.0 clock h.2 (date h.0 (omega (arith, ints, last, h.5)) h.4), h.3, h.4, h.5)

  pub as-undated : ((b : ℤ) → (t -ℤ pos (bound_of q)) ≤ℤ b → b ≤ℤ t → InStretches (date_parts p) one_day b)
      → InStretches (clock_parts p) q t ↔ InStretches p q t
  as-undated date = (on-its-date date, free-of-date)

  since-then : (from : ℤ) → from ≤ℤ t → (InStretches (clock_parts p) q (from -ℤ pos 1) → ⊥)
      → ((b : ℤ) → from ≤ℤ b → b ≤ℤ t → InStretches (date_parts p) one_day b)
      → InStretches (clock_parts p) q t → InStretches p q t
  unfolding InStretches
  since-then from later none date h =
      by_lt_z {P = InStretches p q t} h.0 from
      (λ lt. absurd (none (h.0, h.1, h.2, h.3, omega (arith, ints, lt), omega (arith, ints, later, h.5))))
      (λ ge. (h.0, h.1, matches-on p h.0 clock h.2 (date h.0 ge h.4), h.3, h.4, h.5))

  pub as-undated-since : (from : ℤ) → from ≤ℤ t → (InStretches (clock_parts p) q (from -ℤ pos 1) → ⊥)
      → ((b : ℤ) → from ≤ℤ b → b ≤ℤ t → InStretches (date_parts p) one_day b)
      → InStretches (clock_parts p) q t ↔ InStretches p q t
  as-undated-since from later none date = (since-then from later none date, free-of-date)

-- the same of trees of which it is known what they are
pub undated : (p : StartParts) (q : DurationParts) (clocks dates : StartParts) (day : DurationParts) (own wide date : Tree)
    (longest : ℤ) → clocks ≡ clock_parts p → dates ≡ date_parts p → day ≡ one_day → own ≡ Single p q → wide ≡ Single clocks q
    → date ≡ Single dates day → longest ≡ pos (bound_of q) → IsTrue (gives_clock p) → (t : ℤ)
    → ((b : ℤ) → (t -ℤ longest) ≤ℤ b → b ≤ℤ t → InTree date b) → InTree wide t ↔ InTree own t
undated p q clocks dates day own wide date longest e f g is_own is_wide is_date is_longest clock t all =
    let without : wide ≡ Single (clock_parts p) q = is_wide ∙ ap (λ (s : StartParts). Single s q) e in
    let days : date ≡ Single (date_parts p) one_day =
    is_date ∙ ap (λ (s : StartParts). Single s day) f ∙ ap (λ (x : DurationParts). Single (date_parts p) x) g in
    subst (λ (x : Tree). InTree wide t ↔ InTree x t) (sym is_own)
    (subst (λ (x : Tree). InTree x t ↔ InStretches p q t) (sym without)
    (as-undated p q clock t (λ b low high. subst (λ (x : Tree). InTree x b) days (all b
    (omega (arith, ints, low, is_longest)) high))))

pub undated-since : (p : StartParts) (q : DurationParts) (clocks dates : StartParts) (day : DurationParts) (own wide date : Tree)
    → clocks ≡ clock_parts p → dates ≡ date_parts p → day ≡ one_day → own ≡ Single p q → wide ≡ Single clocks q
    → date ≡ Single dates day → IsTrue (gives_clock p) → (from t : ℤ) → from ≤ℤ t → (InTree wide (from -ℤ pos 1) → ⊥)
    → ((b : ℤ) → from ≤ℤ b → b ≤ℤ t → InTree date b) → InTree wide t ↔ InTree own t
undated-since p q clocks dates day own wide date e f g is_own is_wide is_date clock from t later none all =
    let without : wide ≡ Single (clock_parts p) q = is_wide ∙ ap (λ (s : StartParts). Single s q) e in
    let days : date ≡ Single (date_parts p) one_day =
    is_date ∙ ap (λ (s : StartParts). Single s day) f ∙ ap (λ (x : DurationParts). Single (date_parts p) x) g in
    subst (λ (x : Tree). InTree wide t ↔ InTree x t) (sym is_own)
    (subst (λ (x : Tree). InTree x t ↔ InStretches p q t) (sym without)
    (as-undated-since p q clock t from later
    (λ h. none (subst (λ (x : Tree). InTree x (from -ℤ pos 1)) (sym without) h))
    (λ b low high. subst (λ (x : Tree). InTree x b) days (all b low high))))
