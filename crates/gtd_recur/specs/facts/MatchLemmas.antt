-- A start begins exactly at the seconds that it matches by the fields of days and the levels of the table.
use Rattle.std.proofs.Common.{◌≡◌, ◌↔◌, ◌⊎◌, ℕ, ◌-◌, ◌/◌, ◌%◌, ◌^◌, ◌<◌, inl, inr, Bool, true, false, ◌||◌, ◌==◌, cond}
use Rattle.std.proofs.Common.{Option, Some, None, is_some, not, refl, sym, subst, ap, ◌∙◌, arith, ℤ, pos, IfSome}
use Rattle.std.proofs.lemmas.Bool.{and_parts, and_from, eqb-true, eq-eqb}
use Rattle.std.proofs.lemmas.Bool.Decides.{Decides-int_eq}
use Rattle.gtd_core.specs.declared.start.StartParts.{StartParts}
use Rattle.gtd_calendar.specs.declared.day.DayFields.{DayFields}
use Rattle.gtd_core.specs.FieldTable.{finest_level}
use Rattle.gtd_core.specs.Seconds.{day_of_second}
use Rattle.gtd_calendar.specs.Clock.{second_of_day}
use Rattle.gtd_calendar.specs.ComputedFields.{day_fields}
use Rattle.gtd_calendar.specs.facts.FieldLemmas.{fields-are, fields-only}
use Rattle.gtd_calendar.specs.facts.TimeLemmas.{time_of-is, time_of-only}
use Rattle.gtd_recur.specs.Begins.{agrees, agrees_or_least, gives_clock, gives_day, year_agrees_with, place_agrees, begins}
use Rattle.gtd_recur.specs.Begins.{begins_at, begins_on}
use Rattle.gtd_recur.specs.FieldMatches.{HoldsOnDay, HoldsOnClock, MatchesFields}

-- a field alone
pub agrees-to : (o : Option ℕ) (v : ℕ) → agrees o v ≡ true → IfSome o (λ x. x ≡ v)
agrees-to None v e = tt
agrees-to (Some x) v e = eqb-true x v e

pub agrees-from : (o : Option ℕ) (v : ℕ) → IfSome o (λ x. x ≡ v) → agrees o v ≡ true
agrees-from None v e = refl
agrees-from (Some x) v e = eq-eqb x v e

pub year-to : (o : Option ℕ) (v : ℤ) → year_agrees_with o v ≡ true → IfSome o (λ y. pos y ≡ v)
year-to None v e = tt
year-to (Some y) v e = (Decides-int_eq (pos y) v).0 e

pub year-from : (o : Option ℕ) (v : ℤ) → IfSome o (λ y. pos y ≡ v) → year_agrees_with o v ≡ true
year-from None v e = refl
year-from (Some y) v e = (Decides-int_eq (pos y) v).1 e

pub place-to : (o : Option (ℕ × ℕ)) (n w : ℕ) → place_agrees o n w ≡ true → IfSome o (λ x. (x.0 ≡ n) × (x.1 ≡ w))
place-to None n w e = tt
place-to (Some x) n w e = let parts = and_parts (x.0 == n) (x.1 == w) e in (eqb-true x.0 n parts.0, eqb-true x.1 w parts.1)

pub place-from : (o : Option (ℕ × ℕ)) (n w : ℕ) → IfSome o (λ x. (x.0 ≡ n) × (x.1 ≡ w)) → place_agrees o n w ≡ true
place-from None n w e = refl
place-from (Some x) n w e = and_from (x.0 == n) (x.1 == w) (eq-eqb x.0 n e.0) (eq-eqb x.1 w e.1)

pub or-to : (a b : Bool) → (a || b) ≡ true → (a ≡ true) ⊎ (b ≡ true)
or-to true b e = inl refl
or-to false b e = inr e

pub or-from : (a b : Bool) → (a ≡ true) ⊎ (b ≡ true) → (a || b) ≡ true
or-from true b h = refl
or-from false b h = elim h [ inl e ↦ cc | inr e ↦ e ]

-- a level of one field: the field holds, or it is at its least if no finer one is given
level-to : (o : Option ℕ) (finer : Bool) (least v : ℕ) → agrees_or_least o finer least v ≡ true
    → IfSome o (λ x. x ≡ v) × (is_some o ≡ false → finer ≡ false → v ≡ least)
level-to (Some x) finer least v e = (eqb-true x v e, λ none f. cc)
level-to None true least v e = (tt, λ none f. cc)
level-to None false least v e = (tt, λ none f. sym (eqb-true least v e))

level-from : (o : Option ℕ) (finer : Bool) (least v : ℕ) → IfSome o (λ x. x ≡ v) → (is_some o ≡ false → finer ≡ false → v ≡ least)
    → agrees_or_least o finer least v ≡ true
level-from (Some x) finer least v e h = eq-eqb x v e
level-from None true least v e h = refl
level-from None false least v e h = eq-eqb least v (sym (h refl refl))

-- the finest of the levels at which a field is given, by whether one is given at each
abbrev finest_of : Bool → Bool → Bool → Bool → Bool → ℕ
finest_of second minute hour day month = cond second 5 (cond minute 4 (cond hour 3 (cond day 2 (cond month 1 0))))

abbrev level_of : StartParts → ℕ
level_of p =
    finest_of (is_some p.second) (is_some p.minute) (is_some p.hour) (gives_day p)
    (is_some p.month || is_some p.week)

of_month : (month week year : Bool) (one none : ℕ) → cond week one (cond month one (cond year none none))
    ≡ cond (month || week) one none
of_month true true year one none = refl
of_month true false year one none = refl
of_month false true year one none = refl
of_month false false true one none = refl
of_month false false false one none = refl

of_day : (day nth nth_back weekdays : Bool) (level : ℕ) → cond weekdays 2 (cond day 2 (cond nth_back 2 (cond nth 2 level)))
    ≡ cond (day || (nth || (nth_back || weekdays))) 2 level
of_day true nth nth_back true level = refl
of_day true nth nth_back false level = refl
of_day false true nth_back true level = refl
of_day false true true false level = refl
of_day false true false false level = refl
of_day false false true true level = refl
of_day false false true false level = refl
of_day false false false true level = refl
of_day false false false false level = refl

levels : (p : StartParts) → finest_level p ≡ level_of p
levels p =
    ap (λ n. cond (is_some p.second) 5 (cond (is_some p.minute) 4 (cond (is_some p.hour) 3 n)))
    (of_day (is_some p.day) (is_some p.nth) (is_some p.nth_back) (not (p.weekdays == 0)) _
    ∙ ap (λ n. cond (gives_day p) 2 n) (of_month (is_some p.month) (is_some p.week) (is_some p.year) 1 0))

-- which levels are finer than all given ones
below-5 : (s m h d w : Bool) → finest_of s m h d w < 5 → s ≡ false
below-5 true m h d w lt = absurd (omega arith)
below-5 false m h d w lt = refl

below-4 : (s m h d w : Bool) → finest_of s m h d w < 4 → (s ≡ false) × (m ≡ false)
below-4 true m h d w lt = absurd (omega arith)
below-4 false true h d w lt = absurd (omega arith)
below-4 false false h d w lt = (refl, refl)

below-3 : (s m h d w : Bool) → finest_of s m h d w < 3 → (s ≡ false) × (m ≡ false) × (h ≡ false)
below-3 true m h d w lt = absurd (omega arith)
below-3 false true h d w lt = absurd (omega arith)
below-3 false false true d w lt = absurd (omega arith)
below-3 false false false d w lt = (refl, refl, refl)

below-2 : (s m h d w : Bool) → finest_of s m h d w < 2 → (s ≡ false) × (m ≡ false) × (h ≡ false) × (d ≡ false)
below-2 true m h d w lt = absurd (omega arith)
below-2 false true h d w lt = absurd (omega arith)
below-2 false false true d w lt = absurd (omega arith)
below-2 false false false true w lt = absurd (omega arith)
below-2 false false false false w lt = (refl, refl, refl, refl)

below-1 : (s m h d w : Bool) → finest_of s m h d w < 1 → (s ≡ false) × (m ≡ false) × (h ≡ false) × (d ≡ false) × (w ≡ false)
below-1 true m h d w lt = absurd (omega arith)
below-1 false true h d w lt = absurd (omega arith)
below-1 false false true d w lt = absurd (omega arith)
below-1 false false false true w lt = absurd (omega arith)
below-1 false false false false true lt = absurd (omega arith)
below-1 false false false false false lt = (refl, refl, refl, refl, refl)

is-1 : (w : Bool) → cond w 1 0 < 2
is-1 true = omega arith
is-1 false = omega arith

is-2 : (d w : Bool) → cond d 2 (cond w 1 0) < 3
is-2 true w = omega arith
is-2 false w = let lt = is-1 w in omega (arith, lt)

is-3 : (h d w : Bool) → cond h 3 (cond d 2 (cond w 1 0)) < 4
is-3 true d w = omega arith
is-3 false d w = let lt = is-2 d w in omega (arith, lt)

is-4 : (m h d w : Bool) → cond m 4 (cond h 3 (cond d 2 (cond w 1 0))) < 5
is-4 true h d w = omega arith
is-4 false h d w = let lt = is-3 h d w in omega (arith, lt)

-- the clock
clock-to : (p : StartParts) (k : ℕ) → begins_at p k ≡ true
    → HoldsOnClock p (k / 3600) (k / 60 % 60) (k % 60) × ((level_of p < 5 → k % 60 ≡ 0)
    × (level_of p < 4 → k / 60 % 60 ≡ 0) × (level_of p < 3 → k / 3600 ≡ 0))
clock-to p k e =
    let outer = and_parts _ _ e in
    let inner = and_parts _ _ outer.1 in
    let hour = level-to p.hour (is_some p.minute || is_some p.second) 0 (k / 3600) outer.0 in
    let minute = level-to p.minute (is_some p.second) 0 (k / 60 % 60) inner.0 in
    let second = level-to p.second false 0 (k % 60) inner.1 in (
      record { hour = hour.0; minute = minute.0; second = second.0 },
      (
        (λ lt. second.1 (below-5 (is_some p.second) (is_some p.minute) (is_some p.hour) (gives_day p)
            (is_some p.month || is_some p.week) lt) refl),
        (λ lt. let b = below-4 (is_some p.second) (is_some p.minute) (is_some p.hour) (gives_day p)
            (is_some p.month || is_some p.week) lt in minute.1 b.1 b.0),
        (λ lt. let b = below-3 (is_some p.second) (is_some p.minute) (is_some p.hour) (gives_day p)
            (is_some p.month || is_some p.week) lt in hour.1 b.2 (rw (b.1, b.0) refl)),
      ),
    )

or-false : (a b : Bool) → (a || b) ≡ false → (a ≡ false) × (b ≡ false)
or-false true b e = cc
or-false false b e = (refl, e)

from-5 : (s m h d w : Bool) → s ≡ false → finest_of s m h d w < 5
from-5 s m h d w e = rw e (is-4 m h d w)

from-4 : (s m h d w : Bool) → s ≡ false → m ≡ false → finest_of s m h d w < 4
from-4 s m h d w e f = rw (e, f) (is-3 h d w)

from-3 : (s m h d w : Bool) → s ≡ false → m ≡ false → h ≡ false → finest_of s m h d w < 3
from-3 s m h d w e f g = rw (e, f, g) (is-2 d w)

from-2 : (s m h d w : Bool) → s ≡ false → m ≡ false → h ≡ false → d ≡ false → finest_of s m h d w < 2
from-2 s m h d w e f g i = rw (e, f, g, i) (is-1 w)

from-1 : (s m h d w : Bool) → s ≡ false → m ≡ false → h ≡ false → d ≡ false → w ≡ false → finest_of s m h d w < 1
from-1 s m h d w e f g i j = rw (e, f, g, i, j) (omega arith)

clock-from : (p : StartParts) (k : ℕ) → HoldsOnClock p (k / 3600) (k / 60 % 60) (k % 60) → (level_of p < 5 → k % 60 ≡ 0)
    → (level_of p < 4 → k / 60 % 60 ≡ 0) → (level_of p < 3 → k / 3600 ≡ 0)
    → begins_at p k ≡ true
clock-from p k at second minute hour =
    and_from _ _ (level-from p.hour (is_some p.minute || is_some p.second) 0 (k / 3600) at.hour
    (λ none finer. let f = or-false (is_some p.minute) (is_some p.second) finer in
    hour (from-3 (is_some p.second) (is_some p.minute) (is_some p.hour) (gives_day p)
    (is_some p.month || is_some p.week) f.1 f.0 none)))
    (and_from _ _ (level-from p.minute (is_some p.second) 0 (k / 60 % 60) at.minute (λ none finer.
    minute (from-4 (is_some p.second) (is_some p.minute) (is_some p.hour) (gives_day p)
    (is_some p.month || is_some p.week) finer none)))
    (level-from p.second false 0 (k % 60) at.second (λ none finer.
    second (from-5 (is_some p.second) (is_some p.minute) (is_some p.hour) (gives_day p)
    (is_some p.month || is_some p.week) none))))

-- the day's level
least-to : (week : Bool) (a b : ℕ) → cond week (a == 2) (b == 1) ≡ true → (week ≡ true → a ≡ 2) × (week ≡ false → b ≡ 1)
least-to true a b e = ((λ w. eqb-true a 2 e), (λ w. cc))
least-to false a b e = ((λ w. cc), (λ w. eqb-true b 1 e))

least-from : (week : Bool) (a b : ℕ) → (week ≡ true → a ≡ 2) → (week ≡ false → b ≡ 1) → cond week (a == 2) (b == 1) ≡ true
least-from true a b monday first = eq-eqb a 2 (monday refl)
least-from false a b monday first = eq-eqb b 1 (first refl)

pub rest-to : (g c r : Bool) → (g || (c || r)) ≡ true → g ≡ false → c ≡ false → r ≡ true
rest-to true c r e none f = cc
rest-to false true r e none f = cc
rest-to false false r e none f = e

pub rest-from : (g c r : Bool) → (g ≡ false → c ≡ false → r ≡ true) → (g || (c || r)) ≡ true
rest-from true c r h = refl
rest-from false true r h = refl
rest-from false false r h = h refl refl

day-to : (p : StartParts) (n : DayFields) → begins_on p n ≡ true
    → HoldsOnDay p n × ((level_of p < 2 → (is_some p.week ≡ true → n.weekday ≡ 2) × (is_some p.week ≡ false → n.day ≡ 1))
    × (level_of p < 1 → n.month ≡ 1))
day-to p n e =
    let a = and_parts _ _ e in
    let b = and_parts _ _ a.1 in
    let c = and_parts _ _ b.1 in
    let d = and_parts _ _ c.1 in
    let f = and_parts _ _ d.1 in
    let g = and_parts _ _ f.1 in
    let h = and_parts _ _ g.1 in
    let month = level-to p.month (is_some p.week || (gives_day p || gives_clock p)) 1 n.month b.0 in (
      record {
        year = year-to p.year (cond (is_some p.week) n.week_year n.year) a.0;
        month = month.0;
        week = agrees-to p.week n.week c.0;
        day = agrees-to p.day n.day d.0;
        nth = place-to p.nth n.nth n.weekday f.0;
        nth_back = place-to p.nth_back n.nth_back n.weekday g.0;
        weekdays = elim (or-to (p.weekdays == 0) (p.weekdays / 2 ^ (n.weekday - 1) % 2 == 1) h.0) [
          | inl none ↦ inl (eqb-true p.weekdays 0 none)
          | inr one ↦ inr (eqb-true (p.weekdays / 2 ^ (n.weekday - 1) % 2) 1 one)
        ];
      },
      (
        (λ lt. let k = below-2 (is_some p.second) (is_some p.minute) (is_some p.hour) (gives_day p)
            (is_some p.month || is_some p.week) lt in
            least-to (is_some p.week) n.weekday n.day (rest-to (gives_day p) (gives_clock p)
            (cond (is_some p.week) (n.weekday == 2) (n.day == 1)) h.1 k.3 (rw (k.2, k.1, k.0) refl))),
        (λ lt. let k = below-1 (is_some p.second) (is_some p.minute) (is_some p.hour) (gives_day p)
            (is_some p.month || is_some p.week) lt in
            let coarse = or-false (is_some p.month) (is_some p.week) k.4 in
            month.1 coarse.0 (rw (coarse.1, k.3, k.2, k.1, k.0) refl)),
      ),
    )

day-from : (p : StartParts) (n : DayFields) → HoldsOnDay p n → (level_of p < 2 → is_some p.week ≡ true → n.weekday ≡ 2)
    → (level_of p < 2 → is_some p.week ≡ false → n.day ≡ 1)
    → (level_of p < 1 → n.month ≡ 1) → begins_on p n ≡ true
day-from p n on monday first month =
    and_from _ _ (year-from p.year (cond (is_some p.week) n.week_year n.year) on.year)
    (and_from _ _ (level-from p.month (is_some p.week || (gives_day p || gives_clock p)) 1 n.month on.month (λ none finer.
    let f = or-false (is_some p.week) (gives_day p || gives_clock p) finer in
    let g = or-false (gives_day p) (gives_clock p) f.1 in
    let c = or-false (is_some p.hour) (is_some p.minute || is_some p.second) g.1 in
    let m = or-false (is_some p.minute) (is_some p.second) c.1 in
    month (from-1 (is_some p.second) (is_some p.minute) (is_some p.hour) (gives_day p)
    (is_some p.month || is_some p.week) m.1 m.0 c.0 g.0 (rw (none, f.0) refl))))
    (and_from _ _ (agrees-from p.week n.week on.week)
    (and_from _ _ (agrees-from p.day n.day on.day)
    (and_from _ _ (place-from p.nth n.nth n.weekday on.nth)
    (and_from _ _ (place-from p.nth_back n.nth_back n.weekday on.nth_back)
    (and_from _ _ (or-from (p.weekdays == 0) (p.weekdays / 2 ^ (n.weekday - 1) % 2 == 1) (elim (on.weekdays) [
      | inl none ↦ inl (eq-eqb p.weekdays 0 none)
      | inr one ↦ inr (eq-eqb (p.weekdays / 2 ^ (n.weekday - 1) % 2) 1 one)
    ]))
    (rest-from (gives_day p) (gives_clock p) (cond (is_some p.week) (n.weekday == 2) (n.day == 1)) (λ none clock.
    let c = or-false (is_some p.hour) (is_some p.minute || is_some p.second) clock in
    let m = or-false (is_some p.minute) (is_some p.second) c.1 in
    let low = from-2 (is_some p.second) (is_some p.minute) (is_some p.hour) (gives_day p)
    (is_some p.month || is_some p.week) m.1 m.0 c.0 none in
    least-from (is_some p.week) n.weekday n.day (monday low) (first low)))))))))

-- a start that begins at a second matches it
begins-to : (p : StartParts) (s : ℤ) → begins p s ≡ true → MatchesFields p s
unfolding begins
begins-to p s e =
    let parts = and_parts _ _ e in
    let day = day-to p (day_fields (day_of_second s)) parts.0 in
    let clock = clock-to p (second_of_day s) parts.1 in
    record {
      day = day_of_second s;
      hour = second_of_day s / 3600;
      minute = second_of_day s / 60 % 60;
      second = second_of_day s % 60;
      time = time_of-is s;
      fields = day_fields (day_of_second s);
      shown = fields-are (day_of_second s);
      on = day.0;
      at = clock.0;
      least = record {
        second = λ lt. clock.1.0 (rw (← levels p) lt);
        minute = λ lt. clock.1.1 (rw (← levels p) lt);
        hour = λ lt. clock.1.2 (rw (← levels p) lt);
        monday = λ lt. (day.1.0 (rw (← levels p) lt)).0;
        first = λ lt. (day.1.0 (rw (← levels p) lt)).1;
        january = λ lt. day.1.1 (rw (← levels p) lt);
      };
    }

-- and one that matches it begins at it
begins-from : (p : StartParts) (s : ℤ) → MatchesFields p s → begins p s ≡ true
unfolding begins
begins-from p s m =
    let time = time_of-only s m.day m.hour m.minute m.second m.time in
    let fields = rw time.0 at (fields-only m.day m.fields m.shown) in
    let day = day-from p m.fields m.on (λ lt. m.least.monday (rw (levels p) lt)) (λ lt. m.least.first (rw (levels p) lt))
    (λ lt. m.least.january (rw (levels p) lt)) in
    and_from _ _ (subst (λ (f : DayFields). begins_on p f ≡ true) fields day)
    (clock-from p (second_of_day s) (rw (← time.1, ← time.2, ← time.3) m.at)
    (λ lt. rw (← time.3) (m.least.second (rw (levels p) lt))) (λ lt. rw (← time.2) (m.least.minute (rw (levels p) lt)))
    (λ lt. rw (← time.1) (m.least.hour (rw (levels p) lt))))

pub begins-matches_fields : (p : StartParts) (s : ℤ) → (begins p s ≡ true) ↔ MatchesFields p s
begins-matches_fields p s = (begins-to p s, begins-from p s)
