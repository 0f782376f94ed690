-- A start that gives no year begins again four hundred years later.
use Rattle.std.proofs.Common.{◌≡◌, None, refl, sym, ◌∙◌, arith, ℤ, pos, ◌+ℤ◌, ◌-ℤ◌, ◌<ℤ◌, ◌≤ℤ◌}
use Rattle.gtd_calendar.specs.facts.Signed.{signed_arith}
use Rattle.gtd_core.specs.declared.start.StartParts.{StartParts}
use Rattle.gtd_core.specs.declared.duration.DurationParts.{DurationParts}
use Rattle.gtd_calendar.specs.ComputedDates.{year_of, month_of}
use Rattle.gtd_calendar.specs.ComputedFields.{day_fields}
use Rattle.gtd_core.specs.Seconds.{day_of_second}
use Rattle.gtd_calendar.specs.facts.CycleLemmas.{month_length-cycle, date_of-cycle, weekday_of-cycle, week_of-cycle}
use Rattle.gtd_calendar.specs.facts.CycleLemmas.{day_of_second-cycle, stop-cycle}
use Rattle.gtd_calendar.specs.ComputedEnds.{stop}
use Rattle.gtd_recur.specs.Begins.{begins, begins_on}
use Rattle.gtd_recur.specs.Membership.{InStretches}
use Rattle.gtd_recur.specs.facts.MembershipLemmas.{from_computed, to_computed}

pub begins_on-cycle : (p : StartParts) (n : ℤ) → p.year ≡ None → begins_on p (day_fields (n +ℤ pos 146_097))
    ≡ begins_on p (day_fields n)
begins_on-cycle p n none =
    let date = date_of-cycle n in
    rw (none, date.0, date.1, date.2, weekday_of-cycle n, (week_of-cycle n).0, month_length-cycle (year_of n) (month_of n))

pub begins-cycle : (p : StartParts) (s : ℤ) → p.year ≡ None → begins p (s +ℤ pos 12_622_780_800) ≡ begins p s
unfolding begins
begins-cycle p s none =
    let at = day_of_second-cycle s in rw (at.0, at.1, begins_on-cycle p (day_of_second s) none) refl

-- the basic domain repeats
pub in_stretches-forward : (p : StartParts) (q : DurationParts) (s : ℤ) → p.year ≡ None → InStretches p q s
    → InStretches p q (s +ℤ pos 12_622_780_800)
in_stretches-forward p q s none member =
    let held = to_computed p q s member in
    let b = held.0 in
    let ends = stop-cycle q b in
    from_computed p q (s +ℤ pos 12_622_780_800) (
      b +ℤ pos 12_622_780_800,
      (begins-cycle p b none ∙ held.1.0, le b s held.1.1, rw ends (lt s (stop q b) held.1.2)),
    )
  where
    le : (a b : ℤ) → a ≤ℤ b → (a +ℤ pos 12_622_780_800) ≤ℤ (b +ℤ pos 12_622_780_800)
    le a b h = omega (arith, signed_arith)

    lt : (a b : ℤ) → a <ℤ b → (a +ℤ pos 12_622_780_800) <ℤ (b +ℤ pos 12_622_780_800)
    lt a b h = omega (arith, signed_arith)

pub in_stretches-back : (p : StartParts) (q : DurationParts) (s : ℤ) → p.year ≡ None → InStretches p q (s +ℤ pos 12_622_780_800)
    → InStretches p q s
in_stretches-back p q s none member =
    let held = to_computed p q (s +ℤ pos 12_622_780_800) member in
    let b = held.0 -ℤ pos 12_622_780_800 in
    let same : b +ℤ pos 12_622_780_800 ≡ held.0 = omega (arith, signed_arith) in
    let begun = rw same at (begins-cycle p b none) in
    let ends = rw same at (stop-cycle q b) in
    from_computed p q s (b, (sym begun ∙ held.1.0, le held.0 s held.1.1, lt s (stop q b) (rw ends at held.1.2)))
  where
    le : (a b : ℤ) → a ≤ℤ (b +ℤ pos 12_622_780_800) → (a -ℤ pos 12_622_780_800) ≤ℤ b
    le a b h = omega (arith, signed_arith)

    lt : (a b : ℤ) → (a +ℤ pos 12_622_780_800) <ℤ (b +ℤ pos 12_622_780_800) → a <ℤ b
    lt a b h = omega (arith, signed_arith)
