-- A walk that begins at a day from which the stretches reach as far as all before.
use Rattle.std.proofs.Common.{◌≡◌, ◌⊎◌, ℕ, ◌<◌, ◌≤◌, true, false, refl, inl, inr, arith, ℤ, pos, ◌+ℤ◌, ◌-ℤ◌, ◌*ℤ◌, ◌<ℤ◌, ◌≤ℤ◌}
use Rattle.std.proofs.Common.{int_lt, not, unsigned_abs, ◌∙◌, zero, suc}
use Rattle.std.proofs.lemmas.Bool.{both_ways}
use Rattle.std.proofs.lemmas.Int.{by_lt_z, ints}
use Rattle.gtd_calendar.specs.facts.Signed.{signed_arith}
use Rattle.gtd_calendar.specs.facts.ClockLemmas.{second-parts, second-only, stop-order}
use Rattle.gtd_core.specs.declared.start.StartParts.{StartParts}
use Rattle.gtd_core.specs.declared.duration.DurationParts.{DurationParts}
use Rattle.gtd_core.specs.Ranges.{lookback_of}
use Rattle.gtd_calendar.specs.ComputedFields.{day_fields}
use Rattle.gtd_core.specs.Seconds.{day_of_second}
use Rattle.gtd_spans.specs.Normal.{IsNormalFor}
use Rattle.gtd_spans.specs.facts.NormalFor.{normal-for}
use Rattle.gtd_calendar.specs.Clock.{second_of_day}
use Rattle.gtd_calendar.specs.ComputedEnds.{stop}
use Rattle.gtd_recur.specs.Ascending.{Has}
use Rattle.gtd_recur.specs.Begins.{begins, begins_on}
use Rattle.gtd_recur.specs.ComputedStretches.{IsHeldFromDay, IsHeldFromDays}
use Rattle.gtd_recur.specs.Look.{IsFirstDay}
use Rattle.gtd_recur.specs.Membership.{InStretches}
use Rattle.gtd_recur.specs.Stretches.{runs_between}
use Rattle.gtd_recur.specs.facts.StretchFacts.{runs_between-normal}
use Rattle.gtd_recur.specs.facts.MembershipLemmas.{from_computed}
use Rattle.gtd_core.specs.Parts.{start_parts}
use Rattle.gtd_core.specs.Whole.{from_day, to_day, whole as horizon_whole}
use Rattle.gtd_recur.specs.declared.walk.Walk.{Walk}
use Rattle.gtd_recur.specs.Walking.{walk_all, walk_days}
use Rattle.gtd_recur.specs.Work.{days_between, starts_of, work, whole_work, window_begin, starts_in, work_up_to, work_of}
use Rattle.gtd_recur.proofs.GivenLemmas.{horizon-order, walk-low, walk-order, has-before, window-last, starts_of-append}
use Rattle.gtd_recur.proofs.CoverLemmas.{begins-parts, begins-from, held_in_lookback}
use Rattle.gtd_recur.proofs.HorizonLemmas.{has-either, held-from, held-to, starts_of-begins, begins-window}
use Rattle.gtd_recur.specs.facts.StartsLemmas.{count-append, days_between-append, later_by}
use Rattle.std.proofs.lemmas.List.{length-append}
use Rattle.gtd_recur.proofs.StretchLemmas.{runs_between-holds}

-- so many days before day n is a day on which the start begins, or no earlier day of the lookback is one
pub record IsFirstLook (p : StartParts) (n : ℤ) (lookback back : ℕ) : Type 0 where
  pub within : back ≤ lookback
  pub reason : ((0 < back) × (begins_on p (day_fields (n -ℤ pos back)) ≡ true))
      ⊎ ((k : ℕ) → back < k → k ≤ lookback → begins_on p (day_fields (n -ℤ pos k)) ≡ false)

-- a second before a day that some stretch holds from is held from that day too: by the start with the same clock
pub held-nearer : (p : StartParts) (q : DurationParts) (b t n : ℤ) → begins p b ≡ true → t <ℤ stop q b → day_of_second b ≤ℤ n
    → (pos 86400 *ℤ (n +ℤ pos 1)) ≤ℤ t → begins_on p (day_fields n) ≡ true
    → (c : ℤ) × (day_of_second c ≡ n) × (begins p c ≡ true) × (c ≤ℤ t) × (t <ℤ stop q c)
held-nearer p q b t n on lt le far fits =
    let parts = begins-parts p b on in
    let at = second-parts b in
    let k = second_of_day b in
    let c = pos 86400 *ℤ n +ℤ pos k in
    let is = second-only c n k at.1 refl in
    let more = stop-order q b c (rw (is.0) le) (rw (is.1) (omega arith)) in
    (c, is.0, begins-from p n k at.1 fits parts.1, before t n k at.1 far, omega (arith, signed_arith, lt, more))
  where
    before : (t n : ℤ) (k : ℕ) → k < 86400 → (pos 86400 *ℤ (n +ℤ pos 1)) ≤ℤ t → (pos 86400 *ℤ n +ℤ pos k) ≤ℤ t
    before t n k low far = omega (arith, signed_arith)

-- what is held from some day before its own is held from the last of them on which the start begins
pub held-from-last : (p : StartParts) (q : DurationParts) (low n first s : ℤ) (looked : ℕ) → IsFirstDay p low n first looked
    → n ≡ day_of_second s → IsHeldFromDays p q low n s → (first <ℤ n) × IsHeldFromDay p q first s
held-from-last p q low n first s looked look today held =
    let m = held.0 in
    let b = held.3.0 in
    let parts = second-parts s in
    let on : begins_on p (day_fields m) ≡ true = rw (held.3.1) at (begins-parts p b held.3.2.0).0 in
    by_lt_z {P = (first <ℤ n) × IsHeldFromDay p q first s} first m
    (λ gt. absurd (both_ways _ (look.none m gt held.2) on))
    (λ le. elim (look.reason) [
      | inl w ↦
          let c = held-nearer p q b s first held.3.2.0 held.3.2.2 (rw (held.3.1) le)
          (past first n s (day_of_second s) (second_of_day s) today w.0 parts.0) w.1 in
          (w.0, (c.0, c.1, (c.2, c.3, c.4)))
      | inr last ↦
          let same : m ≡ first = equal m first low held.1 le last in
          (let lt = held.2 in omega (arith, signed_arith, same, lt), (b, held.3.1 ∙ same, held.3.2))
    ])
  where
    past : (first n s d : ℤ) (k : ℕ) → n ≡ d → first <ℤ n → s ≡ pos 86400 *ℤ d +ℤ pos k → (pos 86400 *ℤ (first +ℤ pos 1)) ≤ℤ s
    past first n s d k e lt is = omega (arith, signed_arith)

    equal : (m first low : ℤ) → low ≤ℤ m → m ≤ℤ first → first ≡ low → m ≡ first
    equal m first low a b e = omega (arith, signed_arith)

-- what is held is held from the day itself or from one of the lookback before it
pub held-anywhere : (p : StartParts) (q : DurationParts) (low s : ℤ) → low ≡ day_of_second s -ℤ pos (lookback_of q)
    → InStretches p q s → ¬ (IsHeldFromDay p q (day_of_second s) s) → IsHeldFromDays p q low (day_of_second s) s
held-anywhere p q low s e member none =
    let near = held_in_lookback p q s member in
    by-days near.0 near.1 near.2
  where
    by-days : (k : ℕ) → k ≤ lookback_of q → IsHeldFromDay p q (day_of_second s -ℤ pos k) s
        → IsHeldFromDays p q low (day_of_second s) s
    by-days zero le held =
        let same : day_of_second s -ℤ pos 0 ≡ day_of_second s = omega (arith, signed_arith) in
        absurd (none (rw same at held))
    by-days (suc k) le held =
        (day_of_second s -ℤ pos (suc k), omega (arith, signed_arith, e, le), omega (arith, signed_arith), held)

-- the runs of the starts from there on are those of the basic domain
pub look-runs : (p : StartParts) (q : DurationParts) (first from to : ℤ) (back : ℕ) → first ≡ from -ℤ pos back → from ≤ℤ to
    → IsFirstLook p from (lookback_of q) back
    → IsNormalFor (InStretches p q) (from *ℤ pos 86400) (to *ℤ pos 86400)
    (runs_between q (starts_of p (days_between first to)) (from *ℤ pos 86400) (to *ℤ pos 86400))
look-runs p q first from to back is le look =
    let bs = starts_of p (days_between first to) in
    normal-for (InStretches p q) (from *ℤ pos 86400) (to *ℤ pos 86400) _
    (runs_between-normal q bs (from *ℤ pos 86400) (to *ℤ pos 86400)) (λ t.
    let i = runs_between-holds q bs (from *ℤ pos 86400) (to *ℤ pos 86400) t (omega (arith, signed_arith)) in (
      (λ h. let k = i.0 h in let held = held-to q bs t k.2 in
          (k.0, k.1, from_computed p q t (held.0, (starts_of-begins p (days_between first to) held.0 held.1, held.2, held.3)))),
      (λ h. let near = held_in_lookback p q t h.2 in
          let b = near.2.0 in
          let held = near.2.2 in
          let parts = second-parts t in
          let on = near.2.1 in
          by_lt_z (day_of_second b) first
          (λ lt. elim (look.reason) [
            | inl w ↦
                let fits : begins_on p (day_fields first) ≡ true = rw (is) (w.1) in
                let c = held-nearer p q b t first held.0 held.2 (omega (arith, signed_arith))
                (whole first from t back is w.0 h.0) fits in
                i.1 (
                  h.0,
                  h.1,
                  held-from q bs c.0 t (begins-window p first to c.0 c.2 (rw (c.1) (omega (arith, signed_arith)))
                      (rw (c.1) (omega (arith, signed_arith, is, le, w.0)))) c.3 c.4,
                )
            | inr none ↦ absurd (
                let day = begins-parts p b held.0 in
                let n = early from first t (day_of_second t) (day_of_second b) (second_of_day t) near.0 back
                (lookback_of q) is h.0 parts.0 parts.1 near.1 on lt in
                both_ways _ (none n.0 n.1 n.2) (moved p (from -ℤ pos n.0) (day_of_second b) n.3 day.0))
          ])
          (λ ge. i.1 (
            h.0,
            h.1,
            held-from q bs b t (begins-window p first to b held.0 ge
                (late to t (day_of_second t) (day_of_second b) (second_of_day t) near.0 h.1 parts.0 parts.1 on)) held.1 held.2,
          ))),
    ))
  where
    moved : (p : StartParts) (a b : ℤ) → a ≡ b → begins_on p (day_fields b) ≡ true → begins_on p (day_fields a) ≡ true
    moved p a b e h = rw e h

    whole : (first from t : ℤ) (back : ℕ) → first ≡ from -ℤ pos back → 0 < back → (from *ℤ pos 86400) ≤ℤ t
        → (pos 86400 *ℤ (first +ℤ pos 1)) ≤ℤ t
    whole first from t back e some low = omega (arith, signed_arith)

    late : (to t n m : ℤ) (i k : ℕ) → t <ℤ (to *ℤ pos 86400) → t ≡ pos 86400 *ℤ n +ℤ pos i → i < 86400 → m ≡ n -ℤ pos k → m <ℤ to
    late to t n m i k a b c f = omega (arith, signed_arith)

    distance : (a b : ℤ) → b ≤ℤ a → a -ℤ pos (unsigned_abs (a -ℤ b)) ≡ b
    distance a b le = grind (arith, ints)

    within : (from first t n m : ℤ) (i j k back most : ℕ) → from -ℤ pos j ≡ m → first ≡ from -ℤ pos back → (from *ℤ pos 86400)
        ≤ℤ t → t ≡ pos 86400 *ℤ n +ℤ pos i → i < 86400 → k ≤ most → m ≡ n -ℤ pos k → m <ℤ first → (back < j) × (j ≤ most)
    within from first t n m i j k back most is e low a b h f lt = (omega (arith, signed_arith), omega (arith, signed_arith))

    early : (from first t n m : ℤ) (i k back most : ℕ) → first ≡ from -ℤ pos back → (from *ℤ pos 86400) ≤ℤ t → t ≡ pos 86400 *ℤ n
        +ℤ pos i → i < 86400 → k ≤ most → m ≡ n -ℤ pos k → m <ℤ first
        → (j : ℕ) × (back < j) × (j ≤ most) × (from -ℤ pos j ≡ m)
    early from first t n m i k back most e low a b h f lt =
        let j = unsigned_abs (from -ℤ m) in
        let is : from -ℤ pos j ≡ m = distance from m (omega (arith, signed_arith)) in
        let parts = within from first t n m i j k back most is e low a b h f lt in
        (j, parts.0, parts.1, is)

-- the starts of the horizon's days are those of the narrower window
pub has-narrow : (p : StartParts) (wide first from to b : ℤ) → wide ≤ℤ first → first ≤ℤ from → from ≤ℤ to → (from *ℤ pos 86400)
    <ℤ b → Has (starts_of p (days_between wide to)) b → Has (starts_of p (days_between first to)) b
has-narrow p wide first from to b low high le late h =
    elim (has-either (starts_of p (days_between wide first)) (starts_of p (days_between first to)) b
    (rw (
      days_between-append wide first to low (omega (arith, signed_arith)),
      starts_of-append p (days_between wide first) (days_between first to),
    ) at h)) [
      | inl before ↦ absurd (let lt = has-before (pos 86400 *ℤ first) b (starts_of p (days_between wide first))
          (window-last p wide first low) before in omega (arith, signed_arith, lt, late, high))
      | inr here ↦ here
    ]

-- and its work is no more
pub work-narrow : (p : StartParts) (wide first to b : ℤ) → wide ≤ℤ first → first ≤ℤ to
    → work p (days_between first to) b ≤ work p (days_between wide to) b
unfolding work
work-narrow p wide first to b low high =
    let split = days_between-append wide first to low high in
    let days = count-append (λ n. not (int_lt (day_of_second b) n)) (days_between wide first) (days_between first to) in
    let starts = count-append (λ c. not (int_lt b c)) (starts_of p (days_between wide first))
    (starts_of p (days_between first to)) in
    rw (split, starts_of-append p (days_between wide first) (days_between first to)) (omega (arith, days, starts))

pub whole-narrow : (p : StartParts) (wide first to : ℤ) → wide ≤ℤ first → first ≤ℤ to
    → whole_work p (days_between first to) ≤ whole_work p (days_between wide to)
unfolding whole_work
whole-narrow p wide first to low high =
    let split = days_between-append wide first to low high in
    let days = length-append (days_between wide first) (days_between first to) in
    let starts = length-append (starts_of p (days_between wide first)) (starts_of p (days_between first to)) in
    rw (split, starts_of-append p (days_between wide first) (days_between first to)) (omega (arith, days, starts))

-- what may be counted over the days of a walk may be over the whole window
pub run-widen : (s : Walk) (u : ℤ) (ticks : ℕ) → (horizon_whole s.horizon).from <ℤ u
    → ((b : ℤ) → Has (walk_all s) b → u <ℤ b → s.seen ≤ℤ (day_of_second b +ℤ pos 1)
    → ticks ≤ work (start_parts s.basic.start) (walk_days s) b)
    → (b : ℤ) → Has (starts_in s.basic s.horizon) b → u <ℤ b → ticks ≤ work_up_to s.basic s.horizon b
run-widen s u ticks late most b has after =
    let p = start_parts s.basic.start in
    let n = from_day s.horizon in
    let parts = second-parts b in
    let on : n ≤ℤ day_of_second b = later n b (day_of_second b) (second_of_day b) (omega (arith, signed_arith, late, after))
    parts.0 parts.1 in
    let here = most b (has-narrow p (window_begin s.basic s.horizon) s.first n (to_day s.horizon) b s.first_in
    (walk-low s) (horizon-order s.horizon) (omega (arith, signed_arith, late, after)) has) after
    (let a = s.seen_in in omega (arith, signed_arith, a, on)) in
    let more = work-narrow p (window_begin s.basic s.horizon) s.first (to_day s.horizon) b s.first_in (walk-order s) in
    omega (arith, here, more)
  where
    later : (n b m : ℤ) (k : ℕ) → (n *ℤ pos 86400) <ℤ b → b ≡ pos 86400 *ℤ m +ℤ pos k → k < 86400 → n ≤ℤ m
    later n b m k lt e low = omega (arith, signed_arith)

pub work-widen : (s : Walk) → whole_work (start_parts s.basic.start) (walk_days s) ≤ work_of s.basic s.horizon
work-widen s = whole-narrow (start_parts s.basic.start) (window_begin s.basic s.horizon) s.first (to_day s.horizon) s.first_in
    (walk-order s)

-- a look backwards by days is one by how far back they are
pub first-look : (p : StartParts) (low n first : ℤ) (lookback looked : ℕ) → low ≡ n -ℤ pos lookback
    → IsFirstDay p low n first looked
    → (first ≡ n -ℤ pos (unsigned_abs (n -ℤ first))) × IsFirstLook p n lookback (unsigned_abs (n -ℤ first))
first-look p low n first lookback looked e h =
    let back = unsigned_abs (n -ℤ first) in
    let is : first ≡ n -ℤ pos back = behind n first back (later_by first n h.within) in (
      is,
      record {
        within = near low n first lookback back e is h.begin;
        reason = elim (h.reason) [
          | inl on ↦ inl (some n first back is on.0, rw is at on.1)
          | inr last ↦ inr (λ k gt le. absurd (none low n first lookback back k e is last gt le))
        ];
      },
    )
  where
    behind : (n first : ℤ) (back : ℕ) → n ≡ first +ℤ pos back → first ≡ n -ℤ pos back
    behind n first back e = omega (arith, signed_arith)

    near : (low n first : ℤ) (lookback back : ℕ) → low ≡ n -ℤ pos lookback → first ≡ n -ℤ pos back → low ≤ℤ first
        → back ≤ lookback
    near low n first lookback back a b c = omega (arith, signed_arith)

    some : (n first : ℤ) (back : ℕ) → first ≡ n -ℤ pos back → first <ℤ n → 0 < back
    some n first back a b = omega (arith, signed_arith)

    none : (low n first : ℤ) (lookback back k : ℕ) → low ≡ n -ℤ pos lookback → first ≡ n -ℤ pos back → first ≡ low → back < k
        → k ≤ lookback → ⊥
    none low n first lookback back k a b c d f = omega (arith, signed_arith)
