-- Stretches of whole years, from the first of January on.
use Rattle.std.proofs.Common.{◌≡◌, ◌↔◌, ℕ, ◌+◌, ◌-◌, ◌*◌, ◌<◌, ◌≤◌, Some, refl, sym, inl, arith}
use Rattle.std.proofs.Common.{ℤ, pos, ◌+ℤ◌, ◌≤ℤ◌, ◌<ℤ◌, unsigned_abs}
use Rattle.gtd_calendar.specs.facts.Signed.{signed_arith, one_part}
use Rattle.gtd_core.specs.Ranges.{no_parts}
use Rattle.gtd_core.specs.Trees.{Tree, Single}
use Rattle.gtd_core.specs.declared.start.StartParts.{StartParts}
use Rattle.gtd_calendar.specs.Calendar.{day_number}
use Rattle.gtd_calendar.specs.ComputedDates.{year_of, month_of, day_of_month}
use Rattle.gtd_calendar.specs.ComputedEnds.{month_count}
use Rattle.gtd_calendar.specs.ComputedFields.{day_fields}
use Rattle.gtd_recur.specs.FieldMatches.{HoldsOnDay}
use Rattle.gtd_eval.specs.Membership.{InTree}
use Rattle.gtd_hours_leaves.specs.Leaves.{HasNumberWithin, clocked, minutes_of, moved_day, no_duration}
use Rattle.gtd_hours_leaves.specs.declared.clock.Clock.{Clock}
use Rattle.gtd_hours_leaves.specs.declared.level.Level.TheVariants.{Year}
use Rattle.gtd_hours_leaves.specs.facts.LeafFacts.{days-held}
use Rattle.gtd_hours_leaves.specs.facts.MonthFacts.{first-of, month-in, months-lie, reach-months}

-- the first of January
abbrev pub january : ℕ → StartParts
january y = record no_parts { year = Some y; month = Some 1; day = Some 1 }

january-to : (y : ℕ) (n : ℤ) → HoldsOnDay (january y) (day_fields n)
    → (year_of n ≡ pos y) × (month_of n ≡ 1) × (day_of_month n ≡ 1)
january-to y n x = (sym x.year, sym x.month, sym x.day)

january-from : (y : ℕ) (n : ℤ) → (year_of n ≡ pos y) × (month_of n ≡ 1) × (day_of_month n ≡ 1)
    → HoldsOnDay (january y) (day_fields n)
january-from y n h =
    record { year = sym h.0; month = sym h.1; week = tt; day = sym h.2; nth = tt; nth_back = tt; weekdays = inl refl }

pub year-run : (t : Tree) (c : Clock) (first last : ℕ)
    → t ≡ Single (clocked (january first) c) (record no_duration { years = last + 1 - first })
    → first ≤ last → (s : ℤ) → InTree t s ↔ HasNumberWithin Year first last (moved_day (minutes_of c) s)
year-run t c first last e le s =
    let q = record no_duration { years = last + 1 - first } in
    let held = days-held (january first) q c refl s in
    let m = moved_day (minutes_of c) s in
    let mi = month-in m in
    rw e (
      (λ x.
          let y = held.0 x in
          let d = january-to first y.0 y.1 in
          let lies = (months-lie y.0 m (12 * (last + 1 - first) + 0) d.2).0 (y.2, rw (reach-months q y.0 refl refl) at y.3) in
          years (year_of m) first last (month_of m) mi.0 mi.1 le (rw (d.0, d.1) at lies.0) (rw (d.0, d.1) at lies.1)),
      (λ y.
          let d = first-of (pos first) 1 (omega arith, omega arith) in
          let n = day_number (pos first) 1 1 in
          let at = back (year_of m) y.0 first last (month_of m) mi.0 mi.1 y.1 y.2 y.3 in
          let lies = (months-lie n m (12 * (last + 1 - first) + 0) d.2).1 (rw (d.0, d.1) at.0, rw (d.0, d.1) at.1) in
          held.1 (n, january-from first n d, lies.0, rw (reach-months q n refl refl) lies.1)),
    )
  where
    years : (y : ℤ) (first last mo : ℕ) → 1 ≤ mo → mo ≤ 12 → first ≤ last → month_count (pos first) 1 ≤ℤ month_count y mo
        → month_count y mo <ℤ (month_count (pos first) 1 +ℤ pos (12 * (last + 1 - first) + 0))
        → (k : ℕ) × (first ≤ k) × (k ≤ last) × (y ≡ pos k)
    years y first last mo low high le from until =
        let part = one_part y in
        (unsigned_abs y, omega (arith, signed_arith), omega (arith, signed_arith), omega (arith, signed_arith))

    back : (y : ℤ) (k first last mo : ℕ) → 1 ≤ mo → mo ≤ 12 → first ≤ k → k ≤ last → y ≡ pos k
        → (month_count (pos first) 1 ≤ℤ month_count y mo)
        × (month_count y mo <ℤ (month_count (pos first) 1 +ℤ pos (12 * (last + 1 - first) + 0)))
    back y k first last mo low high from until e = (omega (arith, signed_arith), omega (arith, signed_arith))
