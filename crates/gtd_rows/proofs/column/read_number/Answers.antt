use Rattle.std.proofs.Common.{◌≡◌, ◌∙◌, ◌<◌, ◌≤◌, ◌+◌, ◌*◌, ◌^◌, ◌-◌, sym, refl, arith, ℕ, List, length, length-take, get_or}
use Rattle.std.proofs.Common.{true, take}
use Rattle.std.proofs.Math.Nat.{pow-le-pow_right}
use Rattle.std.proofs.lemmas.Bool.Decides.{nat_tests}
use Rattle.std.proofs.lemmas.List.Folds.{list_all_more}
use Rattle.std.proofs.lemmas.Int.Digits.{digits_value-lt, digits_value_more, digits_more}
use Rattle.std.specs.Char.{is_ascii_digit, digit_value}
use Rattle.std.specs.List.{list_all}
use Rattle.std.specs.Str.Parse.{digits_value, AllDigits}
use Rattle.gtd_rows.proofs.column.read_number.Goals as goal

-- fewer than ten digits stand for a number of at most nine
few : (text : List ℕ) (i : ℕ) → AllDigits 10 (take i text) → i < length text → length text ≤ 10
    → digits_value 10 (take i text) < 1000000000
few text i digits here ten =
    let below = digits_value-lt 10 (take i text) digits in
    let long : length (take i text) ≤ 9 = simp length-take (omega arith) in
    let power : 10 ^ length (take i text) ≤ 10 ^ 9 = pow-le-pow_right (omega arith) long in
    omega arith

pub overflow_mul-number : goal.overflow_mul-number
overflow_mul-number c =
    let f = few c.args.text.now c.loop-digit.digit-index c.loop-digit.invariant.below (omega arith) (omega arith) in
    let v = c.loop-digit.invariant.value in
    omega arith

pub overflow_add-number : goal.overflow_add-number
overflow_add-number c =
    let f = few c.args.text.now c.loop-digit.digit-index c.loop-digit.invariant.below (omega arith) (omega arith) in
    let v = c.loop-digit.invariant.value in
    let fits = c.type_inv.text c.loop-digit.digit-index in
    omega arith

-- a digit has the value that is added
digit : (c : ℕ) → is_ascii_digit c ≡ true → (digit_value c ≡ c - 48) × (digit_value c < 10)
digit c h = grind (arith, nat_tests)

more : (text : List ℕ) (i number : ℕ) → i < length text → is_ascii_digit (get_or text i 0) ≡ true
    → list_all is_ascii_digit (take i text) ≡ true → AllDigits 10 (take i text) → number ≡ digits_value 10 (take i text)
    → (list_all is_ascii_digit (take (i + 1) text) ≡ true) × AllDigits 10 (take (i + 1) text)
    × (number * 10 + (get_or text i 0 - 48) ≡ digits_value 10 (take (i + 1) text))
more text i number here is digits below value =
    let d = digit (get_or text i 0) is in (
      rw (list_all_more is_ascii_digit text i 0 here, digits, is) refl,
      digits_more 10 text i here below d.1,
      rw (digits_value_more 10 text i here, value, d.0) refl,
    )

pub loop-digit-preserved : goal.loop-digit-preserved
loop-digit-preserved c =
    let i = c.loop-digit.invariant in
    let m = more c.args.text.now c.loop-digit.digit-index c.loop-digit.number (omega arith)
    (sym c.is_ascii_digit.ensures.value ∙ c.if-not-is_ascii_digit.false) i.digits i.below i.value in
    record { digits = m.0; below = m.1; value = m.2 }
