-- How large the number of a column can be.
use Rattle.std.proofs.Common.{◌≡◌, ◌<◌, ◌≤◌, ◌^◌, ◌-◌, ◌&&◌, refl, arith, cond, ℕ, Bool, true, false, List, [], ◌∷◌, length}
use Rattle.std.proofs.Common.{Option, Some, None}
use Rattle.std.proofs.lemmas.Bool.Decides.{nat_tests}
use Rattle.std.proofs.lemmas.Int.Digits.{digits_value-lt}
use Rattle.std.proofs.Math.Nat.{pow-le-pow_right}
use Rattle.std.specs.Char.{is_ascii_digit, digit_value}
use Rattle.std.specs.List.{list_all}
use Rattle.std.specs.Str.Parse.{digits_value, AllDigits}
use Rattle.gtd_rows.specs.Columns.{number_of}

-- a digit has the value that is added
digit : (c : ℕ) → is_ascii_digit c ≡ true → (digit_value c ≡ c - 48) × (digit_value c < 10)
digit c h = grind (arith, nat_tests)

both : (a b : Bool) → (a && b) ≡ true → (a ≡ true) × (b ≡ true)
both true b h = (refl, h)
both false b h = cc

all_digits : (text : List ℕ) → list_all is_ascii_digit text ≡ true → AllDigits 10 text
all_digits [] h = tt
all_digits (c ∷ text) h = let p = both (is_ascii_digit c) (list_all is_ascii_digit text) h in
    ((digit c p.0).1, all_digits text p.1)

number_some : (b : Bool) (v n : ℕ) → ◌≡◌ {A = Option ℕ} (cond b (Some v) None) (Some n) → (b ≡ true) × (v ≡ n)
number_some true v n h = (refl, cc)
number_some false v n h = cc

-- a number of few digits is small
pub number_below : (text : List ℕ) (n k : ℕ) → number_of text ≡ Some n → length text ≤ k → n < 10 ^ k
number_below text n k h few =
    let s = number_some _ (digits_value 10 text) n h in
    let d = digits_value-lt 10 text (all_digits text (both _ (list_all is_ascii_digit text) s.0).1) in
    let p : 10 ^ length text ≤ 10 ^ k = pow-le-pow_right (omega arith) few in
    let e = s.1 in
    omega arith
