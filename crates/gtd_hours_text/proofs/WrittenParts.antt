-- Written names, numbers and times of hours are tokens.
use Rattle.std.proofs.Common.{◌≡◌, ◌≢◌, ℕ, ◌+◌, ◌*◌, ◌/◌, ◌%◌, ◌^◌, ◌<◌}
use Rattle.std.proofs.Common.{◌≤◌, Bool, true, false, cond, List, [], ◌∷◌, ◌++◌, length}
use Rattle.std.proofs.Common.{refl, sym, ap, subst, ◌∙◌, arith}
use Rattle.std.specs.Prelude.{◌==◌, codes, decimal}
use Rattle.std.specs.Char.{is_ascii_digit, digit_value}
use Rattle.std.specs.List.{list_all}
use Rattle.std.specs.Str.Parse.{digits_value}
use Rattle.std.proofs.lemmas.Bool.{eqb-true}
use Rattle.std.proofs.lemmas.Bool.Decides.{nat_tests}
use Rattle.std.proofs.lemmas.Fmt.{decimal_is_IsNumeral, length-decimal-le}
use Rattle.gtd_hours.specs.Ranges.{IsMonth, IsWeekday}
use Rattle.gtd_hours.specs.Written.{clock_text, four_digits, month_name, step_text, weekday_name}
use Rattle.gtd_hours_tokens.specs.declared.token.TokenKind.{TokenKind}
use Rattle.gtd_hours_tokens.specs.declared.token.TokenKind.TheVariants as token
use Rattle.gtd_hours_tokens.specs.Lexing.{time as is_time}
use Rattle.gtd_hours_text.proofs.WrittenTokens.{Anything, Apart, IsName, Spelt}
use Rattle.gtd_hours_text.proofs.WrittenTokens.{both_true, decimal_spelt, empty_spelt, joined, loose}
use Rattle.gtd_hours_text.proofs.WrittenTokens.{number_spelt, one, sign_spelt, space_spelt, word_spelt}

-- ---- between parts

pub dashed : (a b : List ℕ) (j k : List TokenKind) → Spelt Apart a j → Spelt Apart b k
    → Spelt Apart (a ++ 45 ∷ [] ++ b) (j ++ token.Dash ∷ [] ++ k)
dashed a b j k x y = loose (a ++ 45 ∷ []) b (j ++ token.Dash ∷ []) k
    (joined Apart Anything a (45 ∷ []) j (token.Dash ∷ []) x (sign_spelt 45 token.Dash refl) (λ rest c. (refl, refl, refl))) y

pub slashed : (a b : List ℕ) (j k : List TokenKind) → Spelt Apart a j → Spelt Apart b k
    → Spelt Apart (a ++ 47 ∷ [] ++ b) (j ++ token.Slash ∷ [] ++ k)
slashed a b j k x y = loose (a ++ 47 ∷ []) b (j ++ token.Slash ∷ []) k
    (joined Apart Anything a (47 ∷ []) j (token.Slash ∷ []) x (sign_spelt 47 token.Slash refl) (λ rest c. (refl, refl, refl))) y

pub spaced : (a b : List ℕ) (j k : List TokenKind) → Spelt Apart a j → Spelt Apart b k
    → Spelt Apart (a ++ 32 ∷ [] ++ b) (j ++ [] ++ k)
spaced a b j k x y = loose (a ++ 32 ∷ []) b (j ++ []) k
    (joined Apart Anything a (32 ∷ []) j [] x space_spelt (λ rest c. (refl, refl, refl))) y

-- ---- names

name_by : (n k : ℕ) (w more : List ℕ) (kind : ℕ → TokenKind) (b : Bool) → (n == k) ≡ b → IsName w (kind k)
    → (n ≢ k → IsName more (kind n)) → IsName (cond b w more) (kind n)
name_by n k w more kind true e is others =
    subst (λ (m : ℕ). IsName w (kind m)) (sym (eqb-true n k e)) is
name_by n k w more kind false e is others = others (grind (arith, nat_tests))

month_is : (m : ℕ) → IsMonth m → IsName (month_name m) (token.Month m)
month_is m h =
    name_by m 1 _ _ token.Month (m == 1) refl (record { letters = refl; word = refl }) (λ n1.
    name_by m 2 _ _ token.Month (m == 2) refl (record { letters = refl; word = refl }) (λ n2.
    name_by m 3 _ _ token.Month (m == 3) refl (record { letters = refl; word = refl }) (λ n3.
    name_by m 4 _ _ token.Month (m == 4) refl (record { letters = refl; word = refl }) (λ n4.
    name_by m 5 _ _ token.Month (m == 5) refl (record { letters = refl; word = refl }) (λ n5.
    name_by m 6 _ _ token.Month (m == 6) refl (record { letters = refl; word = refl }) (λ n6.
    name_by m 7 _ _ token.Month (m == 7) refl (record { letters = refl; word = refl }) (λ n7.
    name_by m 8 _ _ token.Month (m == 8) refl (record { letters = refl; word = refl }) (λ n8.
    name_by m 9 _ _ token.Month (m == 9) refl (record { letters = refl; word = refl }) (λ n9.
    name_by m 10 _ _ token.Month (m == 10) refl (record { letters = refl; word = refl }) (λ n10.
    name_by m 11 _ _ token.Month (m == 11) refl (record { letters = refl; word = refl }) (λ n11.
    let last : 12 ≡ m = omega (arith, h.0, h.1) in
    subst (λ (n : ℕ). IsName (codes "Dec") (token.Month n)) last (record { letters = refl; word = refl }))))))))))))

weekday_is : (k : ℕ) → IsWeekday k → IsName (weekday_name k) (token.Weekday k)
weekday_is k h =
    name_by k 1 _ _ token.Weekday (k == 1) refl (record { letters = refl; word = refl }) (λ n1.
    name_by k 2 _ _ token.Weekday (k == 2) refl (record { letters = refl; word = refl }) (λ n2.
    name_by k 3 _ _ token.Weekday (k == 3) refl (record { letters = refl; word = refl }) (λ n3.
    name_by k 4 _ _ token.Weekday (k == 4) refl (record { letters = refl; word = refl }) (λ n4.
    name_by k 5 _ _ token.Weekday (k == 5) refl (record { letters = refl; word = refl }) (λ n5.
    name_by k 6 _ _ token.Weekday (k == 6) refl (record { letters = refl; word = refl }) (λ n6.
    let last : 7 ≡ k = omega (arith, h.0, h.1) in
    subst (λ (n : ℕ). IsName (codes "Sa") (token.Weekday n)) last (record { letters = refl; word = refl })))))))

pub month_spelt : (m : ℕ) → IsMonth m → Spelt Apart (month_name m) (token.Month m ∷ [])
month_spelt m h = word_spelt (month_name m) (token.Month m) (month_is m h)

pub weekday_spelt : (k : ℕ) → IsWeekday k → Spelt Apart (weekday_name k) (token.Weekday k ∷ [])
weekday_spelt k h = word_spelt (weekday_name k) (token.Weekday k) (weekday_is k h)

-- ---- numbers

pub length_of_decimal : (k n : ℕ) → 0 < k → n < 10 ^ k → n ≤ 9999
    → (1 ≤ length (decimal n)) × (length (decimal n) ≤ k)
length_of_decimal k n some less small =
    let is = decimal_is_IsNumeral n (omega (arith, small)) in
    (omega (arith, is.0.0), length-decimal-le k n some less (omega (arith, small)))

digit_byte : (d : ℕ) → d < 10 → is_ascii_digit (48 + d) ≡ true
digit_byte d less = grind (arith, nat_tests)

digit_is : (d : ℕ) → d < 10 → digit_value (48 + d) ≡ d
digit_is d less = grind (arith, nat_tests)

two_value : (a b : ℕ) → a < 10 → b < 10 → digits_value 10 ((48 + a) ∷ (48 + b) ∷ []) ≡ 10 * a + b
two_value a b g h = rw (digit_is a g, digit_is b h) (omega arith)

four_value : (a b c d : ℕ) → a < 10 → b < 10 → c < 10 → d < 10
    → digits_value 10 ((48 + a) ∷ (48 + b) ∷ (48 + c) ∷ (48 + d) ∷ []) ≡ 1000 * a + 100 * b + 10 * c + d
four_value a b c d e f g h = rw (digit_is a e, digit_is b f, digit_is c g, digit_is d h) (omega arith)

two_all : (a b : ℕ) → a < 10 → b < 10 → list_all is_ascii_digit ((48 + a) ∷ (48 + b) ∷ []) ≡ true
two_all a b g h = both_true _ _ (digit_byte a g) (both_true _ _ (digit_byte b h) refl)

four_all : (a b c d : ℕ) → a < 10 → b < 10 → c < 10 → d < 10
    → list_all is_ascii_digit ((48 + a) ∷ (48 + b) ∷ (48 + c) ∷ (48 + d) ∷ []) ≡ true
four_all a b c d e f g h = both_true _ _ (digit_byte a e) (both_true _ _ (digit_byte b f) (two_all c d g h))

pub year_spelt : (y : ℕ) → y ≤ 9999 → Spelt Apart (four_digits y) (token.Number y 4 ∷ [])
year_spelt y small =
    let a : y / 1000 < 10 = omega arith in
    let b : y / 100 % 10 < 10 = omega arith in
    let c : y / 10 % 10 < 10 = omega arith in
    let d : y % 10 < 10 = omega arith in
    number_spelt (four_digits y) y 4 (four_all (y / 1000) (y / 100 % 10) (y / 10 % 10) (y % 10) a b c d) (omega arith)
    (omega arith)
    (four_value (y / 1000) (y / 100 % 10) (y / 10 % 10) (y % 10) a b c d ∙ omega arith) refl

-- ---- steps

abbrev pub step_kinds : ℕ → List TokenKind
step_kinds step = cond (step == 1) [] (token.Slash ∷ token.Number step (length (decimal step)) ∷ [])

step_by : (step : ℕ) (b : Bool) → step ≤ 9999
    → Spelt Apart (cond b [] (47 ∷ decimal step)) (cond b [] (token.Slash ∷ token.Number step (length (decimal step)) ∷ []))
step_by step true small = empty_spelt
step_by step false small = loose (47 ∷ []) (decimal step) (token.Slash ∷ []) _ (sign_spelt 47 token.Slash refl)
    (decimal_spelt step small)

step_apart : (step : ℕ) (b : Bool) (rest : List ℕ) → Apart rest → Apart (cond b [] (47 ∷ decimal step) ++ rest)
step_apart step true rest c = c
step_apart step false rest c = (refl, refl, refl)

-- a range of numbers with its step
pub ranged : (a b : List ℕ) (step : ℕ) (j k : List TokenKind) → step ≤ 9999 → Spelt Apart a j → Spelt Apart b k
    → Spelt Apart (a ++ 45 ∷ [] ++ b ++ step_text step) (j ++ token.Dash ∷ [] ++ k ++ step_kinds step)
ranged a b step j k small x y = joined Apart Apart (a ++ 45 ∷ [] ++ b) (step_text step) (j ++ token.Dash ∷ [] ++ k)
    (step_kinds step)
    (dashed a b j k x y) (step_by step (step == 1) small) (λ rest c. step_apart step (step == 1) rest c)

-- ---- times

time_spelt : (a b c d h m : ℕ) → a < 10 → b < 10 → c < 10 → d < 10 → 10 * a + b ≡ h → 10 * c + d ≡ m
    → Spelt Apart ((48 + a) ∷ (48 + b) ∷ 58 ∷ (48 + c) ∷ (48 + d) ∷ []) (token.Time h m ∷ [])
time_spelt a b c d h m la lb lc ld e f =
    let hour : h ≡ digits_value 10 ((48 + a) ∷ (48 + b) ∷ []) = sym (two_value a b la lb ∙ e) in
    let minute : m ≡ digits_value 10 ((48 + c) ∷ (48 + d) ∷ []) = sym (two_value c d lc ld ∙ f) in
    record {
      go = λ rest more k s. one ((48 + a) ∷ (48 + b) ∷ 58 ∷ (48 + c) ∷ (48 + d) ∷ rest)
          ((48 + a) ∷ (48 + b) ∷ 58 ∷ (48 + c) ∷ (48 + d) ∷ []) rest (token.Time h m) (token.Time h m ∷ more) more refl refl
          (is_time ((48 + a) ∷ (48 + b) ∷ []) ((48 + c) ∷ (48 + d) ∷ []) refl (two_all a b la lb)
          (two_all c d lc ld, k.1) refl refl
          k.2 (ap (λ (n : ℕ). token.Time n m) hour ∙ ap
          (λ (n : ℕ). token.Time (digits_value 10 ((48 + a) ∷ (48 + b) ∷ [])) n) minute)) s;
    }

pub clock_spelt : (m : ℕ) → m < 6000 → Spelt Apart (clock_text m) (token.Time (m / 60) (m % 60) ∷ [])
unfolding clock_text
clock_spelt m less = time_spelt (m / 60 / 10) (m / 60 % 10) (m % 60 / 10) (m % 60 % 10) (m / 60) (m % 60) (omega arith)
    (omega arith)
    (omega arith) (omega arith) (omega arith) (omega arith)
