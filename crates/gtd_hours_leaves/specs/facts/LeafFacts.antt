-- A start that gives days and a clock to the minute: where it begins, and what its stretches hold.
use Rattle.std.proofs.Common.{◌≡◌, ◌↔◌, ℕ, ◌+◌, ◌*◌, ◌/◌, ◌%◌, ◌<◌, ◌≤◌, true, max, refl, sym, ◌∙◌}
use Rattle.std.proofs.Common.{inl, arith}
use Rattle.std.proofs.Common.{ℤ, pos, ◌+ℤ◌, ◌-ℤ◌, ◌*ℤ◌, ◌≤ℤ◌, ◌<ℤ◌, unsigned_abs, subst}
use Rattle.gtd_calendar.specs.facts.Signed.{signed_arith, one_part}
use Rattle.gtd_core.specs.Seconds.{day_of_second}
use Rattle.gtd_core.specs.Ranges.{clock_seconds, no_parts}
use Rattle.gtd_core.specs.Trees.{Tree, Single, Joined, leaf_count}
use Rattle.gtd_core.specs.declared.start.StartParts.{StartParts}
use Rattle.gtd_core.specs.declared.duration.DurationParts.{DurationParts}
use Rattle.gtd_calendar.specs.declared.day.DayFields.{DayFields}
use Rattle.gtd_calendar.specs.Clock.{second_of_day}
use Rattle.gtd_calendar.specs.ComputedEnds.{months_later, stop}
use Rattle.gtd_calendar.specs.ComputedFields.{day_fields}
use Rattle.gtd_calendar.specs.facts.ClockLemmas.{second-parts, second-only}
use Rattle.gtd_calendar.specs.facts.FieldLemmas.{fields-are, fields-only}
use Rattle.gtd_calendar.specs.facts.MonthLemmas.{months_later-none}
use Rattle.gtd_calendar.specs.facts.TimeLemmas.{time_of-is, time_of-only}
use Rattle.gtd_recur.specs.Begins.{begins}
use Rattle.gtd_recur.specs.FieldMatches.{HoldsOnDay, MatchesFields}
use Rattle.gtd_recur.specs.Membership.{InStretches}
use Rattle.gtd_recur.specs.facts.MatchLemmas.{begins-matches_fields}
use Rattle.gtd_recur.specs.facts.MembershipLemmas.{in_stretches-computed}
use Rattle.gtd_eval.specs.Membership.{InTree}
use Rattle.gtd_hours_leaves.specs.Leaves.{clocked, minutes_of, moved_day, moved_place, no_duration}
use Rattle.gtd_hours_leaves.specs.declared.clock.Clock.{Clock}

-- the fields of the clock settle the second of the day
clock-to : (k h m : ℕ) → h ≡ k / 3600 → m ≡ k / 60 % 60 → k % 60 ≡ 0 → k ≡ 60 * (60 * h + m)
clock-to k h m a b c = omega arith

clock-from : (k h m : ℕ) → h < 24 → m < 60 → k ≡ 60 * (60 * h + m) → (h ≡ k / 3600) × (m ≡ k / 60 % 60) × (k % 60 ≡ 0)
clock-from k h m low small e = (omega arith, omega arith, omega arith)

-- the clock does not matter to the fields of days
days-with : (p : StartParts) (c : Clock) (f : DayFields) → HoldsOnDay p f → HoldsOnDay (clocked p c) f
days-with p c f x = record {
  year = x.year;
  month = x.month;
  week = x.week;
  day = x.day;
  nth = x.nth;
  nth_back = x.nth_back;
  weekdays = x.weekdays;
}

days-without : (p : StartParts) (c : Clock) (f : DayFields) → HoldsOnDay (clocked p c) f → HoldsOnDay p f
days-without p c f x = record {
  year = x.year;
  month = x.month;
  week = x.week;
  day = x.day;
  nth = x.nth;
  nth_back = x.nth_back;
  weekdays = x.weekdays;
}

clocked-to : (p : StartParts) (c : Clock) (b : ℤ) → MatchesFields (clocked p c) b
    → HoldsOnDay p (day_fields (day_of_second b)) × (second_of_day b ≡ 60 * minutes_of c)
clocked-to p c b x =
    let time = time_of-only b x.day x.hour x.minute x.second x.time in
    let fields = rw time.0 at (fields-only x.day x.fields x.shown) in
    let on = subst (λ (f : DayFields). HoldsOnDay p f) fields (days-without p c x.fields x.on) in
    let finer : 4 < 5 = omega arith in
    let second : second_of_day b % 60 ≡ 0 = sym time.3 ∙ x.least.second finer in
    (on, clock-to (second_of_day b) c.hour c.minute (x.at.hour ∙ time.1) (x.at.minute ∙ time.2) second)

clocked-from : (p : StartParts) (c : Clock) (b : ℤ) → HoldsOnDay p (day_fields (day_of_second b))
    → second_of_day b ≡ 60 * minutes_of c → MatchesFields (clocked p c) b
clocked-from p c b on at =
    let k = clock-from (second_of_day b) c.hour c.minute c.in_range.0 c.in_range.1 at in
    record {
      day = day_of_second b;
      hour = second_of_day b / 3600;
      minute = second_of_day b / 60 % 60;
      second = second_of_day b % 60;
      time = time_of-is b;
      fields = day_fields (day_of_second b);
      shown = fields-are (day_of_second b);
      on = days-with p c (day_fields (day_of_second b)) on;
      at = record { hour = k.0; minute = k.1; second = tt };
      least = record {
        second = λ lt. k.2;
        minute = λ lt. absurd (none 4 lt (omega arith));
        hour = λ lt. absurd (none 3 lt (omega arith));
        monday = λ lt. absurd (none 2 lt (omega arith));
        first = λ lt. absurd (none 2 lt (omega arith));
        january = λ lt. absurd (none 1 lt (omega arith));
      };
    }
  where
    none : (k : ℕ) → 4 < k → k ≤ 4 → ⊥
    none k lt le = omega arith

-- where such a start begins: at the clock on its days
pub clocked-begins : (p : StartParts) (c : Clock) (b : ℤ)
    → (begins (clocked p c) b ≡ true) ↔ (HoldsOnDay p (day_fields (day_of_second b)) × (second_of_day b ≡ 60 * minutes_of c))
clocked-begins p c b =
    let same = begins-matches_fields (clocked p c) b in (
      (λ e. clocked-to p c b (same.0 e)),
      (λ y. same.1 (clocked-from p c b y.0 y.1)),
    )

-- the day that a stretch of years, months, weeks and days from day n on ends before
abbrev pub reach : DurationParts → ℤ → ℤ
reach q n = months_later n (12 * q.years + q.months) +ℤ pos (7 * q.weeks + q.days)

-- The stretches of such a start, if they last for days: they hold the days from one of its days on up to their reach, each
-- moved by the clock.
pub days-held : (p : StartParts) (q : DurationParts) (c : Clock) → clock_seconds q ≡ 0 → (s : ℤ)
    → InStretches (clocked p c) q s
    ↔ ((n : ℤ) × HoldsOnDay p (day_fields n) × (n ≤ℤ moved_day (minutes_of c) s) × (moved_day (minutes_of c) s <ℤ reach q n))
unfolding stop
days-held p q c none s =
    let a : ℕ = 60 * minutes_of c in
    let same = in_stretches-computed (clocked p c) q s in
    let moved = second-parts (s -ℤ pos a) in (
      (λ held.
          let x = same.0 held in
          let begun = (clocked-begins p c x.0).0 x.1.0 in
          let parts = second-parts x.0 in
          let there = within s x.0 (day_of_second x.0) (reach q (day_of_second x.0)) (moved_day (minutes_of c) s)
          (second_of_day x.0) a
          (clock_seconds q) (moved_place (minutes_of c) s) parts.0 begun.1 none x.1.1 x.1.2 moved.0 moved.1 in
          (day_of_second x.0, begun.0, there.0, there.1)),
      (λ y.
          let b = pos 86400 *ℤ y.0 +ℤ pos a in
          let is = second-only b y.0 a (small c.hour c.minute c.in_range.0 c.in_range.1) refl in
          let lies = begun s y.0 (reach q y.0) (moved_day (minutes_of c) s) a (clock_seconds q) (moved_place (minutes_of c) s)
          none y.2 y.3 moved.0
          moved.1 in
          same.1 (b, ((clocked-begins p c b).1 (rw is.0 y.1, is.1), lies.0, rw (is.0, is.1) lies.1))),
    )
  where
    small : (h m : ℕ) → h < 24 → m < 60 → 60 * (60 * h + m) < 86400
    small h m low few = omega arith

    within : (s b n r d : ℤ) (k a t j : ℕ) → b ≡ pos 86400 *ℤ n +ℤ pos k → k ≡ a → t ≡ 0 → b ≤ℤ s
        → s <ℤ (pos 86400 *ℤ r +ℤ pos (k + t)) → s -ℤ pos a ≡ pos 86400 *ℤ d +ℤ pos j → j < 86400 → (n ≤ℤ d) × (d <ℤ r)
    within s b n r d k a t j e at none le lt moved low = (omega (arith, signed_arith), omega (arith, signed_arith))

    begun : (s n r d : ℤ) (a t j : ℕ) → t ≡ 0 → n ≤ℤ d → d <ℤ r → s -ℤ pos a ≡ pos 86400 *ℤ d +ℤ pos j → j < 86400
        → ((pos 86400 *ℤ n +ℤ pos a) ≤ℤ s) × (s <ℤ (pos 86400 *ℤ r +ℤ pos (a + t)))
    begun s n r d a t j none le lt moved low = (omega (arith, signed_arith), omega (arith, signed_arith))

-- without years and months a stretch reaches so many days further
pub reach-days : (q : DurationParts) (n : ℤ) → 12 * q.years + q.months ≡ 0 → reach q n ≡ n +ℤ pos (7 * q.weeks + q.days)
reach-days q n none = rw (none, months_later-none n)

-- Each day of such a start, and so many days from it on.
pub each-days : (t : Tree) (p : StartParts) (c : Clock) (d : ℕ) → t ≡ Single (clocked p c) (record no_duration { days = d })
    → (s : ℤ)
    → InTree t s ↔ ((k : ℕ) × (k < d) × HoldsOnDay p (day_fields (moved_day (minutes_of c) s -ℤ pos k)))
each-days t p c d e s =
    let q = record no_duration { days = d } in
    let held = days-held p q c refl s in
    let m = moved_day (minutes_of c) s in
    rw e (
      (λ x.
          let y = held.0 x in
          let far = rw (reach-days q y.0 refl) at y.3 in
          let k = back y.0 m d y.2 far in
          (k.0, k.1, rw k.2 y.1)),
      (λ y. held.1 (m -ℤ pos y.0, y.2, low m y.0, rw (reach-days q (m -ℤ pos y.0) refl) (high m y.0 d y.1))),
    )
  where
    back : (n m : ℤ) (d : ℕ) → n ≤ℤ m → m <ℤ (n +ℤ pos (7 * 0 + d)) → (k : ℕ) × (k < d) × (m -ℤ pos k ≡ n)
    back n m d le lt =
        let part = one_part (m -ℤ n) in
        (unsigned_abs (m -ℤ n), omega (arith, signed_arith), omega (arith, signed_arith))

    low : (m : ℤ) (k : ℕ) → (m -ℤ pos k) ≤ℤ m
    low m k = omega (arith, signed_arith)

    high : (m : ℤ) (k d : ℕ) → k < d → m <ℤ ((m -ℤ pos k) +ℤ pos (7 * 0 + d))
    high m k d lt = omega (arith, signed_arith)

-- one day
pub each-day : (e : Type 0) (p : StartParts) (m : ℤ) → (e ↔ ((k : ℕ) × (k < 1) × HoldsOnDay p (day_fields (m -ℤ pos k))))
    → e ↔ HoldsOnDay p (day_fields m)
each-day e p m all =
    let same : m -ℤ pos 0 ≡ m = omega (arith, signed_arith) in (
      (λ h. let x = all.0 h in let none : x.0 ≡ 0 = omega (arith, x.1) in rw same at (rw none at x.2)),
      (λ h. all.1 (0, omega arith, rw same h)),
    )

-- minutes of each day
pub clock-held : (t : Tree) (c : Clock) (k : ℕ) → t ≡ Single (clocked no_parts c) (record no_duration { minutes = k })
    → k ≤ 1440 → (s : ℤ)
    → InTree t s ↔ (moved_place (minutes_of c) s < 60 * k)
unfolding stop
clock-held t c k e most s =
    let q = record no_duration { minutes = k } in
    let a : ℕ = 60 * minutes_of c in
    let same = in_stretches-computed (clocked no_parts c) q s in
    let moved = second-parts (s -ℤ pos a) in
    rw e (
      (λ held.
          let x = same.0 held in
          let begun = (clocked-begins no_parts c x.0).0 x.1.0 in
          let parts = second-parts x.0 in
          within s x.0 (day_of_second x.0) (months_later (day_of_second x.0) 0) (moved_day (minutes_of c) s) (second_of_day x.0)
          a k
          (moved_place (minutes_of c) s) parts.0 begun.1 most (months_later-none (day_of_second x.0)) x.1.1 x.1.2 moved.0
          moved.1),
      (λ y.
          let n = moved_day (minutes_of c) s in
          let b = pos 86400 *ℤ n +ℤ pos a in
          let is = second-only b n a (small c.hour c.minute c.in_range.0 c.in_range.1) refl in
          let lies = begun s n (months_later n 0) a k (moved_place (minutes_of c) s) (months_later-none n) y moved.0 in
          same.1 (
            b,
            (
              (clocked-begins no_parts c b).1 (every (day_fields (day_of_second b)), is.1),
              lies.0,
              rw (is.0, is.1)
                  lies.1,
            ),
          )),
    )
  where
    small : (h m : ℕ) → h < 24 → m < 60 → 60 * (60 * h + m) < 86400
    small h m low few = omega arith

    every : (f : DayFields) → HoldsOnDay no_parts f
    every f = record { year = tt; month = tt; week = tt; day = tt; nth = tt; nth_back = tt; weekdays = inl refl }

    within : (s b n r d : ℤ) (i a k j : ℕ) → b ≡ pos 86400 *ℤ n +ℤ pos i → i ≡ a → k ≤ 1440 → r ≡ n → b ≤ℤ s
        → s <ℤ (pos 86400 *ℤ (r +ℤ pos (7 * 0 + 0)) +ℤ pos (i + (3600 * 0 + 60 * k + 0))) → s -ℤ pos a ≡ pos 86400 *ℤ d +ℤ pos j
        → j < 86400
        → j < 60 * k
    within s b n r d i a k j e at most stays le lt moved low = omega (arith, signed_arith)

    begun : (s n r : ℤ) (a k j : ℕ) → r ≡ n → j < 60 * k → s -ℤ pos a ≡ pos 86400 *ℤ n +ℤ pos j
        → ((pos 86400 *ℤ n +ℤ pos a) ≤ℤ s) × (s <ℤ (pos 86400 *ℤ (r +ℤ pos (7 * 0 + 0)) +ℤ pos (a + (3600 * 0 + 60 * k + 0))))
    begun s n r a k j stays lt moved = (omega (arith, signed_arith), omega (arith, signed_arith))

-- each expression has a basic domain
pub some-leaf : (t : Tree) → 1 ≤ leaf_count t
some-leaf (Single start duration) = omega arith
some-leaf (Joined op left right) = let l = some-leaf left in omega (arith, l)

pub no-less : (t : Tree) → leaf_count t ≡ max 1 (leaf_count t)
no-less t = let l = some-leaf t in omega (arith, l)
