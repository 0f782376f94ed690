-- Words as XML reads them, and as people see them.
use Rattle.std.proofs.Common.{◌≡◌, ◌≢◌, ◌∙◌, sym, ap, refl, ◌≤◌, ◌<◌, ◌+◌, ◌/◌, ◌%◌, inl, inr, ℕ, List, [], ◌∷◌, ◌++◌}
use Rattle.std.proofs.Common.{arith, Bool}
use Rattle.std.proofs.Common.{true, false, get_or, length, length-append}
use Rattle.std.specs.Prelude.{All, drop, flat_map, codes, ◌==◌, nat_lt, if◌then◌else◌}
use Rattle.std.proofs.lemmas.Grind.{flat_map-append}
use Rattle.std.proofs.lemmas.List.Elements.{All-head, All-tail}
use Rattle.gtd_picture.specs.Reading.{IsPiece, IsReadAs}
use Rattle.gtd_picture.specs.Words.{escape, hex_digit, is_plain, shown_byte, xml_text}

-- a character of printable ASCII
abbrev IsSeen : ℕ → Type 0
IsSeen c = (32 ≤ c) × (c ≤ 126)

AreSeen : List ℕ → Type 0
AreSeen [] = Unit {0}
AreSeen (c ∷ rest) = IsSeen c × AreSeen rest

-- what holds of either list holds of the one that is chosen
chosen : (P : List ℕ → Type 0) (t : Bool) (xs ys : List ℕ) → (t ≡ true → P xs) → (t ≡ false → P ys) → P (if t then xs else ys)
chosen P true xs ys first second = first refl
chosen P false xs ys first second = second refl

is_equal : (c n : ℕ) → (c == n) ≡ true → c ≡ n
is_equal c n e = grind (arith, e)

is_other : (c n : ℕ) → (c == n) ≡ false → c ≢ n
is_other c n e = grind (arith, e)

xml_piece : (c : ℕ) → IsSeen c → IsPiece (xml_text c) c
xml_piece c seen =
    chosen (λ p. IsPiece p c) (c == 38) (codes "&amp;") _ (λ e. inr (inl (refl, is_equal c 38 e))) (λ a.
    chosen (λ p. IsPiece p c) (c == 60) (codes "&lt;") _ (λ e. inr (inr (inl (refl, is_equal c 60 e)))) (λ l.
    chosen (λ p. IsPiece p c) (c == 62) (codes "&gt;") (c ∷ []) (λ e. inr (inr (inr (refl, is_equal c 62 e)))) (λ g.
    inl (refl, seen.0, seen.1, is_other c 38 a, is_other c 60 l, is_other c 62 g))))

-- XML reads characters as they stand in it
read_seen : (cs : List ℕ) → AreSeen cs → IsReadAs (flat_map xml_text cs) cs
unfolding AreSeen
read_seen [] seen = refl
read_seen (c ∷ cs) seen = (xml_text c, flat_map xml_text cs, xml_piece c seen.0, read_seen cs seen.1, refl)

seen-append : (a b : List ℕ) → AreSeen a → AreSeen b → AreSeen (a ++ b)
unfolding AreSeen
seen-append [] b p q = q
seen-append (c ∷ a) b p q = (p.0, seen-append a b p.1 q)

hex_seen : (n : ℕ) → n < 16 → IsSeen (hex_digit n)
hex_seen n few = by_digit (nat_lt n 10) refl
  where
    by_digit : (t : Bool) → nat_lt n 10 ≡ t → IsSeen (if t then 48 + n else 87 + n)
    by_digit true e = (omega arith, grind (arith, e))
    by_digit false e = (omega arith, omega (arith, few))

high_few : (b : ℕ) → b < 256 → b / 16 < 16
high_few b few = omega (arith, few)

low_few : (b : ℕ) → b % 16 < 16
low_few b = omega arith

plain_seen : (b : ℕ) → is_plain b ≡ true → IsSeen b
plain_seen b e = (grind (arith, e), grind (arith, e))

byte_seen : (b : ℕ) → b < 256 → AreSeen (shown_byte b)
unfolding AreSeen
byte_seen b few =
    chosen AreSeen (is_plain b) (b ∷ []) _ (λ e. (plain_seen b e, tt))
    (λ e. (
      (omega arith, omega arith),
      ((omega arith, omega arith), (hex_seen (b / 16) (high_few b few), (hex_seen (b % 16) (low_few b), tt))),
    ))

words_seen : (words : List ℕ) → All (λ (b : ℕ). b < 256) words → AreSeen (flat_map shown_byte words)
unfolding AreSeen
words_seen [] all = tt
words_seen (b ∷ words) all =
    seen-append (shown_byte b) (flat_map shown_byte words) (byte_seen b (All-head (λ (x : ℕ). x < 256) b words all))
    (words_seen words (All-tail (λ (x : ℕ). x < 256) b words all))

escape_is : (words : List ℕ) → flat_map escape words ≡ flat_map xml_text (flat_map shown_byte words)
escape_is [] = refl
escape_is (b ∷ words) =
    ap (λ (l : List ℕ). escape b ++ l) (escape_is words)
    ∙ sym (flat_map-append xml_text (shown_byte b) (flat_map shown_byte words))

pub words_read : (words : List ℕ) → All (λ (b : ℕ). b < 256) words → IsReadAs (flat_map escape words) (flat_map shown_byte words)
words_read words all = rw (escape_is words) (read_seen (flat_map shown_byte words) (words_seen words all))

-- digits of different numbers differ
hex_one : (m n : ℕ) → m < 16 → n < 16 → hex_digit m ≡ hex_digit n → m ≡ n
hex_one m n few less e = by_digits (nat_lt m 10) (nat_lt n 10) refl refl e
  where
    by_digits : (t u : Bool) → nat_lt m 10 ≡ t → nat_lt n 10 ≡ u
        → (if t then 48 + m else 87 + m) ≡ (if u then 48 + n else 87 + n) → m ≡ n
    by_digits true true p q e = omega (arith, e)
    by_digits true false p q e = absurd (grind (arith, p, q, e))
    by_digits false true p q e = absurd (grind (arith, p, q, e))
    by_digits false false p q e = omega (arith, e)

-- the four characters of a byte that is not seen as itself
abbrev four : ℕ → List ℕ
four b = 92 ∷ 120 ∷ hex_digit (b / 16) ∷ hex_digit (b % 16) ∷ []

-- one byte, and then others
byte_apart : (t u : Bool) (x y : ℕ) (xs ys : List ℕ) → x < 256 → y < 256 → is_plain x ≡ t → is_plain y ≡ u
    → (if t then x ∷ [] else four x) ++ xs ≡ (if u then y ∷ [] else four y) ++ ys → (x ≡ y) × (xs ≡ ys)
byte_apart true true x y xs ys p q s t e =
    (ap (λ (l : List ℕ). get_or l 0 0) e, ap (λ (l : List ℕ). drop 1 l) e)
byte_apart true false x y xs ys p q s t e =
    let first : x ≡ 92 = ap (λ (l : List ℕ). get_or l 0 0) e in
    absurd (grind (arith, s, first))
byte_apart false true x y xs ys p q s t e =
    let first : 92 ≡ y = ap (λ (l : List ℕ). get_or l 0 0) e in
    absurd (grind (arith, t, first))
byte_apart false false x y xs ys p q s t e =
    let high = hex_one (x / 16) (y / 16) (high_few x p) (high_few y q) (ap (λ (l : List ℕ). get_or l 2 0) e) in
    let low = hex_one (x % 16) (y % 16) (low_few x) (low_few y) (ap (λ (l : List ℕ). get_or l 3 0) e) in
    (omega (arith, high, low), ap (λ (l : List ℕ). drop 4 l) e)

byte_long : (t : Bool) (b : ℕ) → 0 < length (if t then b ∷ [] else four b)
byte_long true b = omega arith
byte_long false b = omega arith

some_long : (b : ℕ) (words : List ℕ) → 0 < length (flat_map shown_byte (b ∷ words))
some_long b words =
    let one = byte_long (is_plain b) b in
    let all = length-append (shown_byte b) (flat_map shown_byte words) in
    omega (arith, one, all)

-- different words are seen as different ones
pub words_back : (a b : List ℕ) → All (λ (x : ℕ). x < 256) a → All (λ (x : ℕ). x < 256) b
    → flat_map shown_byte a ≡ flat_map shown_byte b → a ≡ b
words_back [] [] p q e = refl
words_back [] (y ∷ b) p q e = let long = some_long y b in let none = ap length e in absurd (omega (arith, long, none))
words_back (x ∷ a) [] p q e = let long = some_long x a in let none = ap length e in absurd (omega (arith, long, none))
words_back (x ∷ a) (y ∷ b) p q e =
    let apart = byte_apart (is_plain x) (is_plain y) x y (flat_map shown_byte a) (flat_map shown_byte b)
    (All-head (λ (x : ℕ). x < 256) x a p) (All-head (λ (x : ℕ). x < 256) y b q) refl refl e in
    let rest = words_back a b (All-tail (λ (x : ℕ). x < 256) x a p) (All-tail (λ (x : ℕ). x < 256) y b q) apart.1 in
    ap (λ (c : ℕ). c ∷ a) apart.0 ∙ ap (λ (l : List ℕ). y ∷ l) rest
