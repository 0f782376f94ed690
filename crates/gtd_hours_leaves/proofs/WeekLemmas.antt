-- Stretches of whole weeks, from a Monday on.
use Rattle.std.proofs.Common.{◌≡◌, ◌↔◌, ℕ, zero, suc, ◌+◌, ◌-◌, ◌*◌, ◌/◌, ◌%◌, ◌^◌, ◌<◌, ◌≤◌, Some, refl, sym, ◌∙◌}
use Rattle.std.proofs.Common.{inl, inr, arith}
use Rattle.std.proofs.Common.{ℤ, pos, ◌+ℤ◌, ◌-ℤ◌, ◌≤ℤ◌, ◌<ℤ◌, unsigned_abs}
use Rattle.std.specs.Int.{int_rem_euclid}
use Rattle.gtd_calendar.specs.facts.Signed.{signed_arith, one_part}
use Rattle.gtd_core.specs.Ranges.{no_parts}
use Rattle.gtd_core.specs.Trees.{Tree, Single}
use Rattle.gtd_core.specs.declared.start.StartParts.{StartParts}
use Rattle.gtd_calendar.specs.Calendar.{first_day, thursday_of, weekday_of, year_length}
use Rattle.gtd_calendar.specs.ComputedDates.{week_of, week_year_of}
use Rattle.gtd_calendar.specs.ComputedFields.{day_fields}
use Rattle.gtd_calendar.specs.facts.WeekLemmas.{week_of-is, week_of-only}
use Rattle.gtd_recur.specs.FieldMatches.{HoldsOnDay}
use Rattle.gtd_eval.specs.Membership.{InTree}
use Rattle.gtd_hours.specs.facts.PlaceFacts.{weekday-in}
use Rattle.gtd_hours_leaves.specs.Leaves.{HasNumberWithin, IsRun, clocked, minutes_of, moved_day, no_duration}
use Rattle.gtd_hours_leaves.specs.declared.clock.Clock.{Clock}
use Rattle.gtd_hours_leaves.specs.declared.level.Level.TheVariants.{Week}
use Rattle.gtd_hours_leaves.specs.facts.LeafFacts.{days-held, reach-days}

-- a Monday is the third day before the Thursday of its week
is-monday : (n : ℤ) → weekday_of n ≡ 2 → thursday_of n ≡ n +ℤ pos 3
unfolding weekday_of thursday_of
is-monday n e = let part = one_part (int_rem_euclid (n +ℤ pos 4) (pos 7)) in omega (arith, signed_arith)

-- and the day three days before the Thursday of some week is a Monday
monday-is : (n m : ℤ) (i : ℕ) → n ≡ (thursday_of m -ℤ pos 3) -ℤ pos (7 * i) → weekday_of n ≡ 2
unfolding weekday_of thursday_of
monday-is n m i e = let part = one_part (int_rem_euclid (n +ℤ pos 4) (pos 7)) in omega (arith, signed_arith)

-- a day is in the week that begins three days before its Thursday
week-begins : (m : ℤ) → ((thursday_of m -ℤ pos 3) ≤ℤ m) × (m <ℤ (thursday_of m +ℤ pos 4))
unfolding thursday_of
week-begins m = (omega (arith, signed_arith), omega (arith, signed_arith))

-- of a day in a later week of seven days each
thursday-later : (n m : ℤ) (i : ℕ) → thursday_of n ≡ n +ℤ pos 3 → (n +ℤ pos (7 * i)) ≤ℤ m → m <ℤ (n +ℤ pos (7 * i + 7))
    → thursday_of m ≡ thursday_of n +ℤ pos (7 * i)
unfolding thursday_of
thursday-later n m i e low high = omega (arith, signed_arith)

year-long : (y : ℤ) → 365 ≤ year_length y
year-long y = grind arith

-- the Monday of a week
abbrev pub monday_of_week : ℕ → StartParts
monday_of_week w = record no_parts { week = Some w; weekdays = 2 }

given-monday : (k : ℕ) → 1 ≤ k → k ≤ 7 → 2 / 2 ^ (k - 1) % 2 ≡ 1 → k ≡ 2
given-monday zero low high e = absurd (omega (arith, low))
given-monday (suc zero) low high e = absurd (omega (arith, e))
given-monday (suc (suc zero)) low high e = refl
given-monday (suc (suc (suc zero))) low high e = absurd (omega (arith, e))
given-monday (suc (suc (suc (suc zero)))) low high e = absurd (omega (arith, e))
given-monday (suc (suc (suc (suc (suc zero))))) low high e = absurd (omega (arith, e))
given-monday (suc (suc (suc (suc (suc (suc zero)))))) low high e = absurd (omega (arith, e))
given-monday (suc (suc (suc (suc (suc (suc (suc zero))))))) low high e = absurd (omega (arith, e))
given-monday (suc (suc (suc (suc (suc (suc (suc (suc k)))))))) low high e = absurd (omega (arith, high))

monday-to : (w : ℕ) (n : ℤ) → HoldsOnDay (monday_of_week w) (day_fields n) → (week_of n ≡ w) × (weekday_of n ≡ 2)
monday-to w n x =
    let r = weekday-in n in (
      sym x.week,
      elim (x.weekdays)
          [ inl none ↦ absurd (omega (arith, none)) | inr one ↦ given-monday (weekday_of n) r.0 r.1 one ],
    )

monday-from : (w : ℕ) (n : ℤ) → (week_of n ≡ w) × (weekday_of n ≡ 2) → HoldsOnDay (monday_of_week w) (day_fields n)
monday-from w n h = record {
  year = tt;
  month = tt;
  week = sym h.0;
  day = tt;
  nth = tt;
  nth_back = tt;
  weekdays = inr (rw h.1 refl);
}

pub week-run : (t : Tree) (c : Clock) (first last : ℕ)
    → t ≡ Single (clocked (monday_of_week first) c) (record no_duration { weeks = last + 1 - first })
    → IsRun Week first last → (s : ℤ) → InTree t s ↔ HasNumberWithin Week first last (moved_day (minutes_of c) s)
week-run t c first last e run s =
    let q = record no_duration { weeks = last + 1 - first } in
    let held = days-held (monday_of_week first) q c refl s in
    let m = moved_day (minutes_of c) s in
    rw e (
      (λ x.
          let y = held.0 x in
          let d = monday-to first y.0 y.1 in
          let w = week_of-is y.0 in
          let monday = is-monday y.0 d.1 in
          let at = place y.0 m first last y.2 (rw (reach-days q y.0 refl) at y.3) in
          let thursday = thursday-later y.0 m at.0 monday at.2 at.3 in
          let number = weeks w.k at.0 first last (year_length (week_year_of y.0)) (sym (sym w.number ∙ d.0)) w.in_year
          (year-long (week_year_of y.0)) run at.1 in
          let only = week_of-only m (week_year_of y.0) (first + at.0) (record {
            k = w.k + 7 * at.0;
            in_year = number.0;
            thursday = thursday ∙ summed (thursday_of y.0) (first_day (week_year_of y.0)) w.k at.0 w.thursday;
            number = number.1;
          }) in
          (first + at.0, omega arith, omega (arith, at.1, run.1), sym only.1)),
      (λ y.
          let w = week_of-is m in
          let i : ℕ = y.0 - first in
          let n = (thursday_of m -ℤ pos 3) -ℤ pos (7 * i) in
          let monday = monday-is n m i refl in
          let thursday = is-monday n monday in
          let k = earlier w.k (week_of m) y.0 first i run.0 w.number y.3 y.1 refl in
          let only = week_of-only n (week_year_of m) first (record {
            k = w.k - 7 * i;
            in_year = omega (arith, w.in_year);
            thursday = thursday ∙ back (thursday_of m) (first_day (week_year_of m)) w.k i k.0 w.thursday;
            number = k.1;
          }) in
          let lies = week-begins m in
          let there = begun (thursday_of m) m y.0 first last lies.0 lies.1 y.1 y.2 in
          held.1 (n, monday-from first n (sym only.1, monday), there.0, rw (reach-days q n refl) there.1)),
    )
  where
    place : (n m : ℤ) (first last : ℕ) → n ≤ℤ m → m <ℤ (n +ℤ pos (7 * (last + 1 - first) + 0))
        → (i : ℕ) × (i < last + 1 - first) × ((n +ℤ pos (7 * i)) ≤ℤ m) × (m <ℤ (n +ℤ pos (7 * i + 7)))
    place n m first last le lt =
        let part = one_part (m -ℤ n) in
        let j : ℕ = unsigned_abs (m -ℤ n) in
        let at : m ≡ n +ℤ pos j = omega (arith, signed_arith) in
        let low : j < 7 * (last + 1 - first) = omega (arith, signed_arith) in
        (j / 7, omega arith, omega (arith, signed_arith), omega (arith, signed_arith))

    weeks : (k i first last long : ℕ) → first ≡ k / 7 + 1 → k < long → 365 ≤ long → IsRun Week first last → i < last + 1 - first
        → (k + 7 * i < long) × (first + i ≡ (k + 7 * i) / 7 + 1)
    weeks k i first last long e lt le run few =
        (elim (run.3) [ inl before ↦ omega (arith, before) | inr one ↦ omega (arith, one) ], omega arith)

    summed : (th a : ℤ) (k i : ℕ) → th ≡ a +ℤ pos k → th +ℤ pos (7 * i) ≡ a +ℤ pos (k + 7 * i)
    summed th a k i e = omega (arith, signed_arith)

    earlier : (k w v first i : ℕ) → 1 ≤ first → w ≡ k / 7 + 1 → w ≡ v → first ≤ v → i ≡ v - first
        → (7 * i ≤ k) × (first ≡ (k - 7 * i) / 7 + 1)
    earlier k w v first i low e f le is = (omega arith, omega arith)

    back : (th a : ℤ) (k i : ℕ) → 7 * i ≤ k → th ≡ a +ℤ pos k → ((th -ℤ pos 3) -ℤ pos (7 * i)) +ℤ pos 3 ≡ a +ℤ pos (k - 7 * i)
    back th a k i le e = omega (arith, signed_arith)

    begun : (th m : ℤ) (v first last : ℕ) → (th -ℤ pos 3) ≤ℤ m → m <ℤ (th +ℤ pos 4) → first ≤ v → v ≤ last
        → (((th -ℤ pos 3) -ℤ pos (7 * (v - first))) ≤ℤ m)
        × (m <ℤ (((th -ℤ pos 3) -ℤ pos (7 * (v - first))) +ℤ pos (7 * (last + 1 - first) + 0)))
    begun th m v first last low high from until = (omega (arith, signed_arith), omega (arith, signed_arith))
