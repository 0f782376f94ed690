-- A basic domain without months and years repeats after each span of time after which its start begins again.
use Rattle.std.proofs.Common.{◌≡◌, ℕ, ◌+◌, ◌*◌, sym, ◌∙◌, arith, ℤ, pos, ◌+ℤ◌, ◌-ℤ◌, ◌<ℤ◌, ◌≤ℤ◌}
use Rattle.gtd_calendar.specs.facts.Signed.{signed_arith}
use Rattle.gtd_core.specs.declared.start.StartParts.{StartParts}
use Rattle.gtd_core.specs.declared.duration.DurationParts.{DurationParts}
use Rattle.gtd_core.specs.Ranges.{clock_seconds}
use Rattle.gtd_calendar.specs.ComputedEnds.{stop}
use Rattle.gtd_calendar.specs.facts.ClockLemmas.{stop-without_months}
use Rattle.gtd_recur.specs.Begins.{begins}
use Rattle.gtd_recur.specs.Membership.{InStretches}
use Rattle.gtd_recur.specs.Weekly.{IsWeekly}
use Rattle.gtd_recur.specs.facts.MembershipLemmas.{from_computed, to_computed}

-- the start begins w seconds later exactly if it begins
abbrev pub BeginsAgain : ℤ → StartParts → Type 0
BeginsAgain w p = (b : ℤ) → begins p (b +ℤ w) ≡ begins p b

-- a stretch that begins w seconds later ends w seconds later
pub stop-later : (w : ℤ) (p : StartParts) (q : DurationParts) (b : ℤ) → IsWeekly p q → stop q (b +ℤ w) ≡ stop q b +ℤ w
stop-later w p q b weekly =
    let none : 12 * q.years + q.months ≡ 0 = omega (arith, weekly.years, weekly.months) in
    rw (stop-without_months q (b +ℤ w) none, stop-without_months q b none)
    (moved b w (86400 * (7 * q.weeks + q.days) + clock_seconds q))
  where
    moved : (b w : ℤ) (k : ℕ) → (b +ℤ w) +ℤ pos k ≡ (b +ℤ pos k) +ℤ w
    moved b w k = omega (arith, signed_arith)

-- a basic domain whose start begins again repeats
pub repeats-forward : (w : ℤ) (p : StartParts) (q : DurationParts) (s : ℤ) → BeginsAgain w p → IsWeekly p q
    → InStretches p q s → InStretches p q (s +ℤ w)
repeats-forward w p q s again weekly member =
    let held = to_computed p q s member in
    let b = held.0 in
    from_computed p q (s +ℤ w) (
      b +ℤ w,
      (again b ∙ held.1.0, le b s w held.1.1, rw (stop-later w p q b weekly) (lt s (stop q b) w held.1.2)),
    )
  where
    le : (a b w : ℤ) → a ≤ℤ b → (a +ℤ w) ≤ℤ (b +ℤ w)
    le a b w h = omega (arith, signed_arith)

    lt : (a b w : ℤ) → a <ℤ b → (a +ℤ w) <ℤ (b +ℤ w)
    lt a b w h = omega (arith, signed_arith)

pub repeats-back : (w : ℤ) (p : StartParts) (q : DurationParts) (s : ℤ) → BeginsAgain w p → IsWeekly p q
    → InStretches p q (s +ℤ w) → InStretches p q s
repeats-back w p q s again weekly member =
    let held = to_computed p q (s +ℤ w) member in
    let b = held.0 -ℤ w in
    let same : b +ℤ w ≡ held.0 = omega (arith, signed_arith) in
    let begun = rw same at (again b) in
    let ends = rw same at (stop-later w p q b weekly) in
    from_computed p q s (b, (sym begun ∙ held.1.0, le held.0 s w held.1.1, lt s (stop q b) w (rw ends at held.1.2)))
  where
    le : (a b w : ℤ) → a ≤ℤ (b +ℤ w) → (a -ℤ w) ≤ℤ b
    le a b w h = omega (arith, signed_arith)

    lt : (a b w : ℤ) → (a +ℤ w) <ℤ (b +ℤ w) → a <ℤ b
    lt a b w h = omega (arith, signed_arith)
