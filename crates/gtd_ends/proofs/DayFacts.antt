-- The steps of a date that is moved by days.
use Rattle.std.proofs.Common.{◌≡◌, ◌≢◌, ℕ, zero, suc, ◌+◌, ◌-◌, ◌/◌, ◌%◌, ◌<◌, ◌≤◌, Bool, true, false, cond, Option, Some, None}
use Rattle.std.proofs.Common.{refl, sym, ap, ◌∙◌, arith}
use Rattle.std.specs.Prelude.{◌==◌, nat_le}
use Rattle.std.proofs.lemmas.Bool.{eq-eqb, le-leb, leb-true, ne_eqb}
use Rattle.gtd_ends.specs.Dates.{days_on, sure_length}

pub no_ends : (ends year month day days : ℕ) → ends ≡ 0 → None ≡ days_on ends year month day days
unfolding days_on
no_ends zero year month day days e = refl
no_ends (suc ends) year month day days e = absurd (omega (arith, e))

abbrev step : Bool → Bool → ℕ → ℕ → ℕ → ℕ → ℕ → Option (ℕ × ℕ × ℕ)
step within leap ends year month day days =
    cond within (Some (year, month, day + days))
    (cond leap None (days_on ends (year + month / 12) (month % 12 + 1) 1 (day + days - sure_length month - 1)))

one_step : (ends year month day days : ℕ) → ends ≢ 0 → days_on ends year month day days
    ≡ step (nat_le (day + days) (sure_length month)) (month == 2) (ends - 1) year month day days
unfolding days_on
one_step zero year month day days some = absurd (some refl)
one_step (suc ends) year month day days some =
    let e : (suc ends - 1) ≡ ends = omega arith in
    ap (λ (n : ℕ). step (nat_le (day + days) (sure_length month)) (month == 2) n year month day days) (sym e)

later : (a b : ℕ) → b < a → nat_le a b ≡ false
later a b less = by_test (nat_le a b) refl
  where
    by_test : (t : Bool) → nat_le a b ≡ t → t ≡ false
    by_test true e = let most = leb-true a b e in absurd (omega (arith, less, most))
    by_test false e = refl

pub same_month : (ends year month day days length : ℕ) → ends ≢ 0 → length ≡ sure_length month → day + days ≤ length
    → Some (year, month, day + days) ≡ days_on ends year month day days
same_month ends year month day days length some is most =
    let short : day + days ≤ sure_length month = omega (arith, is, most) in
    sym (one_step ends year month day days some
    ∙ ap (λ (t : Bool). step t (month == 2) (ends - 1) year month day days) (le-leb (day + days) (sure_length month) short))

past : (ends year month day days length : ℕ) → ends ≢ 0 → length ≡ sure_length month → length < day + days
    → days_on ends year month day days ≡ step false (month == 2) (ends - 1) year month day days
past ends year month day days length some is more =
    let long : sure_length month < day + days = omega (arith, is, more) in
    one_step ends year month day days some
    ∙ ap (λ (t : Bool). step t (month == 2) (ends - 1) year month day days) (later (day + days) (sure_length month) long)

pub past_february : (ends year month day days length : ℕ) → ends ≢ 0 → length ≡ sure_length month → length < day + days
    → month ≡ 2
    → None ≡ days_on ends year month day days
past_february ends year month day days length some is more two =
    sym (past ends year month day days length some is more
    ∙ ap (λ (t : Bool). step false t (ends - 1) year month day days) (eq-eqb month 2 two))

pub next_month : (ends year month day days length : ℕ) → ends ≢ 0 → length ≡ sure_length month → length < day + days → month ≢ 2
    → days_on (ends - 1) (year + month / 12) (month % 12 + 1) 1 (day + days - length - 1) ≡ days_on ends year month day days
next_month ends year month day days length some is more other =
    ap (λ (k : ℕ). days_on (ends - 1) (year + month / 12) (month % 12 + 1) 1 (day + days - k - 1)) is
    ∙ sym (past ends year month day days length some is more
    ∙ ap (λ (t : Bool). step false t (ends - 1) year month day days) (ne_eqb month 2 other))
