use Rattle.std.proofs.Common.{arith, ◌≡◌, ◌∙◌, to_z, of_z, to_z-of_z, w8, w16, w64, pos, neg_ℤ, ◌≤ℤ◌, ◌≤◌, ◌↔◌, ℤ, ℕ, FitsSigned}
use Rattle.jiff_core.specs.Calendar as theirs
use Rattle.gtd_calendar.specs.Calendar.{IsDate}
use Rattle.jiff.proofs.SpanFacts.{signed_arith}
use Rattle.jiff_core.proofs.SignedLemmas.{signed_casts}
use Rattle.gtd_calendar.specs.facts.JiffLemmas.{is_date-theirs}
use Rattle.gtd_calendar.proofs.day.day_of_date.Goals as goal

-- what has a value exactly if `jiff` has the date has one exactly if this calendar has it
ours : (some : Type 0) (y : ℤ) (m d : ℕ) → FitsSigned w16 y → (neg_ℤ (pos 9999) ≤ℤ y) × (y ≤ℤ pos 9999) → m ≤ 12 → d ≤ 31
    → some ↔ theirs.IsDate (to_z w16 (of_z w16 y)) (to_z w8 m) (to_z w8 d) → some ↔ IsDate y m d
ours some y m d fits year month day can =
    let m_is : to_z w8 m ≡ pos m = omega (arith, signed_casts) in
    let d_is : to_z w8 d ≡ pos d = omega (arith, signed_casts) in
    let both = is_date-theirs y m d _ _ year m_is d_is in
    let theirs_can = rw (to_z-of_z fits) at can in
    (λ ok. both.0 (theirs_can.0 ok), λ date. theirs_can.1 (both.1 date))

pub returns-in-Ok-clause-exists : goal.returns-in-Ok-clause-exists
returns-in-Ok-clause-exists c = ours _ c.args.year c.args.month c.args.day c.ranges.year c.requires.year_in (omega arith)
    (omega arith) (rw c.in-Ok.is at c.new.ensures.succeeds)

pub returns-in-Ok-clause-value : goal.returns-in-Ok-clause-value
returns-in-Ok-clause-value c =
    let year : to_z w16 (of_z w16 c.args.year) ≡ c.args.year = to_z-of_z c.ranges.year in
    let long : to_z w64 (of_z w64 c.day_number_of.result) ≡ c.day_number_of.result = omega (arith, signed_arith) in
    let is = rw (c.in-Ok.is, year) at c.new.ensures.value in
    let month : c.in-Ok.date.month ≡ c.args.month = omega (arith, signed_casts, is.1) in
    let day : c.in-Ok.date.day ≡ c.args.day = omega (arith, signed_casts, is.2) in
    long ∙ rw (is.0, month, day) at c.day_number_of.ensures.value

pub returns-in-Err-clause-exists : goal.returns-in-Err-clause-exists
returns-in-Err-clause-exists c = ours _ c.args.year c.args.month c.args.day c.ranges.year c.requires.year_in (omega arith)
    (omega arith) (rw c.in-Err.is at c.new.ensures.succeeds)
