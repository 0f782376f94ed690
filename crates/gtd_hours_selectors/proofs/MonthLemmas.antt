-- Stretches of whole months, from the first day of a month on.
use Rattle.std.proofs.Common.{◌≡◌, ◌↔◌, ◌⊎◌, ℕ, ◌+◌, ◌*◌, ◌<◌, ◌≤◌, Some, refl, sym, inl, inr, arith}
use Rattle.std.proofs.Common.{ℤ, pos, ◌+ℤ◌, ◌-ℤ◌, ◌≤ℤ◌, ◌<ℤ◌}
use Rattle.std.proofs.lemmas.Int.{by_lt_z}
use Rattle.gtd_calendar.specs.facts.Signed.{signed_arith}
use Rattle.gtd_core.specs.Ranges.{no_parts}
use Rattle.gtd_core.specs.Trees.{Tree, Single}
use Rattle.gtd_core.specs.declared.start.StartParts.{StartParts}
use Rattle.gtd_calendar.specs.Calendar.{day_number}
use Rattle.gtd_calendar.specs.ComputedDates.{year_of, month_of, day_of_month}
use Rattle.gtd_calendar.specs.ComputedEnds.{month_count}
use Rattle.gtd_calendar.specs.ComputedFields.{day_fields}
use Rattle.gtd_recur.specs.FieldMatches.{HoldsOnDay}
use Rattle.gtd_eval.specs.Membership.{InTree}
use Rattle.gtd_hours.specs.Ranges.{IsMonth}
use Rattle.gtd_hours_leaves.specs.Leaves.{clocked, minutes_of, moved_day, no_duration}
use Rattle.gtd_hours_leaves.specs.declared.clock.Clock.{Clock}
use Rattle.gtd_hours_leaves.specs.facts.LeafFacts.{days-held, reach}
use Rattle.gtd_hours_leaves.specs.facts.MonthFacts.{count, first-of, month-in, months-lie, reach-months}

-- the first of a month
abbrev pub first_of_month : ℕ → StartParts
first_of_month mo = record no_parts { month = Some mo; day = Some 1 }

month-to : (mo : ℕ) (n : ℤ) → HoldsOnDay (first_of_month mo) (day_fields n) → (month_of n ≡ mo) × (day_of_month n ≡ 1)
month-to mo n x = (sym x.month, sym x.day)

month-from : (mo : ℕ) (n : ℤ) → (month_of n ≡ mo) × (day_of_month n ≡ 1) → HoldsOnDay (first_of_month mo) (day_fields n)
month-from mo n h = record { year = tt; month = sym h.0; week = tt; day = sym h.1; nth = tt; nth_back = tt; weekdays = inl refl }

-- so many months from one on, over the end of the year too
pub month-run : (t : Tree) (c : Clock) (mo k : ℕ) → t ≡ Single (clocked (first_of_month mo) c) (record no_duration { months = k })
    → IsMonth mo → k ≤ 12 → (s : ℤ) → let m = moved_day (minutes_of c) s in
    InTree t s ↔ (((mo ≤ month_of m) × (month_of m < mo + k)) ⊎ (month_of m + 12 < mo + k))
month-run t c mo k e range most s =
    let q = record no_duration { months = k } in
    let held = days-held (first_of_month mo) q c refl s in
    let m = moved_day (minutes_of c) s in
    let mi = month-in m in
    rw e (
      (λ x.
          let y = held.0 x in
          let d = month-to mo y.0 y.1 in
          let lies = (months-lie y.0 m (12 * 0 + k) d.1).0 (y.2, rw (reach-months q y.0 refl refl) at y.3) in
          months (year_of y.0) (year_of m) mo (month_of m) k range.0 range.1 mi.0 mi.1 most (rw d.0 at lies.0)
          (rw d.0 at lies.1)),
      (λ h. elim h [
        | inl y ↦ let at = same (year_of m) mo (month_of m) k range.0 mi.0 y.0 y.1 in there held (year_of m) at.0 at.1
        | inr y ↦ let at = before (year_of m) mo (month_of m) k range.0 range.1 mi.0 y in there held (year_of m -ℤ pos 1) at.0
            at.1
      ]),
    )
  where
    months : (y z : ℤ) (mo l k : ℕ) → 1 ≤ mo → mo ≤ 12 → 1 ≤ l → l ≤ 12 → k ≤ 12 → month_count y mo ≤ℤ month_count z l
        → month_count z l <ℤ (month_count y mo +ℤ pos (12 * 0 + k)) → ((mo ≤ l) × (l < mo + k)) ⊎ (l + 12 < mo + k)
    months y z mo l k a b d f most from until =
        by_lt_z y z
        (λ lt. inr (omega (arith, signed_arith)))
        (λ le. inl (omega (arith, signed_arith), omega (arith, signed_arith)))

    same : (y : ℤ) (mo l k : ℕ) → 1 ≤ mo → 1 ≤ l → mo ≤ l → l < mo + k → (month_count y mo ≤ℤ month_count y l)
        × (month_count y l <ℤ (month_count y mo +ℤ pos (12 * 0 + k)))
    same y mo l k a b le lt = (omega (arith, signed_arith), omega (arith, signed_arith))

    before : (y : ℤ) (mo l k : ℕ) → 1 ≤ mo → mo ≤ 12 → 1 ≤ l → l + 12 < mo + k → (month_count (y -ℤ pos 1) mo ≤ℤ month_count y l)
        × (month_count y l <ℤ (month_count (y -ℤ pos 1) mo +ℤ pos (12 * 0 + k)))
    before y mo l k a b d lt = (omega (arith, signed_arith), omega (arith, signed_arith))

    there : ((InTree (Single (clocked (first_of_month mo) c) (record no_duration { months = k })) s)
        ↔ ((n : ℤ) × HoldsOnDay (first_of_month mo)
        (day_fields n) × (n ≤ℤ moved_day (minutes_of c) s) × (moved_day (minutes_of c) s <ℤ reach
        (record no_duration { months = k }) n)))
        → (y : ℤ) → month_count y mo ≤ℤ count (moved_day (minutes_of c) s)
        → count (moved_day (minutes_of c) s) <ℤ (month_count y mo +ℤ pos (12 * 0 + k))
        → InTree (Single (clocked (first_of_month mo) c) (record no_duration { months = k })) s
    there held y from until =
        let q = record no_duration { months = k } in
        let n = day_number y mo 1 in
        let d = first-of y mo range in
        let lies = (months-lie n (moved_day (minutes_of c) s) (12 * 0 + k) d.2).1 (rw (d.0, d.1) from, rw (d.0, d.1) until) in
        held.1 (n, month-from mo n (d.1, d.2), lies.0, rw (reach-months q n refl refl) lies.1)
