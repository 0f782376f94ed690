-- Numbers in a text: where they end, and what they are.
use Rattle.std.proofs.Common.{◌≡◌, ℕ, ◌+◌, ◌/◌, ◌%◌, ◌^◌, ◌<◌, ◌≤◌, true, false, List, [], ◌∷◌, ◌++◌, refl, sym}
use Rattle.std.proofs.Common.{ap, ◌∙◌, arith}
use Rattle.std.specs.Prelude.{decimal}
use Rattle.std.specs.Char.{is_ascii_digit}
use Rattle.std.proofs.lemmas.Bool.{false≢true, le-leb}
use Rattle.std.proofs.lemmas.Fmt.{decimal_by_steps, decimal_injective}
use Rattle.gtd_phrases.specs.Pieces.{four_digits, two_digits}

abbrev pub Both : {A : Type 0} → A → A → List ℕ → List ℕ → Type 0
Both a b r s = (a ≡ b) × (r ≡ s)

abbrev pub head : List ℕ → ℕ
head [] = 0
head (x ∷ xs) = x

abbrev pub tail : List ℕ → List ℕ
tail [] = []
tail (x ∷ xs) = xs

-- ---- numbers

pub digit : (d : ℕ) → d < 10 → is_ascii_digit (48 + d) ≡ true
digit d small = rw (le-leb 48 (48 + d) (omega arith)) (le-leb (48 + d) 57 (omega arith))

abbrev pub NoDigit : List ℕ → Type 0
NoDigit [] = Unit {0}
NoDigit (c ∷ r) = is_ascii_digit c ≡ false

abbrev pub AreDigits : List ℕ → Type 0
AreDigits [] = Unit {0}
AreDigits (c ∷ ds) = (is_ascii_digit c ≡ true) × AreDigits ds

digits_more : (ds : List ℕ) (d : ℕ) → d < 10 → AreDigits ds → AreDigits (ds ++ (48 + d) ∷ [])
digits_more [] d small h = (digit d small, tt)
digits_more (c ∷ ds) d small h = (h.0, digits_more ds d small h.1)

pub are_digits : (n : ℕ) → n < 2 ^ 64 → AreDigits (decimal n)
are_digits n small = decimal_by_steps (λ m ds. AreDigits ds) (λ m h. (digit m h, tt))
    (λ m ds large h. digits_more ds (m % 10) (omega arith) h) n small

no_digit_there : (r : List ℕ) (y : ℕ) (l : List ℕ) → NoDigit r → is_ascii_digit y ≡ true → r ≡ y ∷ l → ⊥
no_digit_there [] y l h d e = absurd cc
no_digit_there (c ∷ r) y l h d e =
    let same : c ≡ y = ap (λ (l : List ℕ). head l) e in
    false≢true (sym h ∙ ap (λ (b : ℕ). is_ascii_digit b) same ∙ d)

pub split_digits : (xs ys r s : List ℕ) → AreDigits xs → AreDigits ys → NoDigit r → NoDigit s → xs ++ r ≡ ys ++ s
    → Both xs ys r s
split_digits [] [] r s a b h k e = (refl, e)
split_digits [] (y ∷ ys) r s a b h k e = absurd (no_digit_there r y (ys ++ s) h b.0 e)
split_digits (x ∷ xs) [] r s a b h k e = absurd (no_digit_there s x (xs ++ r) k a.0 (sym e))
split_digits (x ∷ xs) (y ∷ ys) r s a b h k e =
    let same : x ≡ y = ap (λ (l : List ℕ). head l) e in
    let rest = split_digits xs ys r s a.1 b.1 h k (ap (λ (l : List ℕ). tail l) e) in
    (ap (λ (c : ℕ). c ∷ xs) same ∙ ap (λ (l : List ℕ). y ∷ l) rest.0, rest.1)

pub decimal_then : (m n : ℕ) (r s : List ℕ) → m < 2 ^ 64 → n < 2 ^ 64 → NoDigit r → NoDigit s
    → decimal m ++ r ≡ decimal n ++ s → Both m n r s
decimal_then m n r s lm ln h k e =
    let p = split_digits (decimal m) (decimal n) r s (are_digits m lm) (are_digits n ln) h k e in
    (decimal_injective m n lm ln p.0, p.1)

pub two_then : (m n : ℕ) (r s : List ℕ) → m < 100 → n < 100 → two_digits m ++ r ≡ two_digits n ++ s → Both m n r s
two_then m n r s lm ln e =
    let tens : (48 + m / 10) ≡ (48 + n / 10) = ap (λ (l : List ℕ). head l) e in
    let ones : (48 + m % 10) ≡ (48 + n % 10) = ap (λ (l : List ℕ). head (tail l)) e in
    (omega arith, ap (λ (l : List ℕ). tail (tail l)) e)

pub four_then : (m n : ℕ) (r s : List ℕ) → m ≤ 9999 → n ≤ 9999 → four_digits m ++ r ≡ four_digits n ++ s → Both m n r s
four_then m n r s lm ln e =
    let a : (48 + m / 1000) ≡ (48 + n / 1000) = ap (λ (l : List ℕ). head l) e in
    let b : (48 + m / 100 % 10) ≡ (48 + n / 100 % 10) = ap (λ (l : List ℕ). head (tail l)) e in
    let c : (48 + m / 10 % 10) ≡ (48 + n / 10 % 10) = ap (λ (l : List ℕ). head (tail (tail l))) e in
    let d : (48 + m % 10) ≡ (48 + n % 10) = ap (λ (l : List ℕ). head (tail (tail (tail l)))) e in
    (omega arith, ap (λ (l : List ℕ). tail (tail (tail (tail l)))) e)
