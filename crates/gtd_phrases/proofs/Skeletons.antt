-- Texts as far as they are known: bytes, and digits of numbers.
use Rattle.std.proofs.Common.{◌≡◌, ℕ, Bool, true, false, List, [], ◌∷◌, ◌++◌, refl, sym, ap, ◌∙◌}
use Rattle.std.specs.Prelude.{◌==◌, not}
use Rattle.std.specs.Char.{is_ascii_digit}
use Rattle.std.proofs.lemmas.Bool.{false≢true, eq-eqb}
use Rattle.gtd_phrases.proofs.Numbers.{head, tail}

pub data Sym : Type 0 where
  Byte : (byte : ℕ) → Sym
  Digit : Sym

-- two of which no byte is both
abbrev pub clash : Sym → Sym → Bool
clash (Byte a) (Byte b) = not (a == b)
clash (Byte a) Digit = not (is_ascii_digit a)
clash Digit (Byte b) = not (is_ascii_digit b)
clash Digit Digit = false

abbrev pub apart : List Sym → List Sym → Bool
apart [] t = false
apart (a ∷ s) [] = false
apart (a ∷ s) (b ∷ t) = elim (clash a b) as (λ c. Bool) [ true ↦ true | false ↦ apart s t ]

abbrev pub Is : Sym → ℕ → Type 0
Is (Byte a) c = c ≡ a
Is Digit c = is_ascii_digit c ≡ true

-- A text begins as a skeleton says.
abbrev pub Fits : List Sym → List ℕ → Type 0
Fits [] l = Unit {0}
Fits (a ∷ s) [] = ⊥
Fits (a ∷ s) (c ∷ l) = Is a c × Fits s l

not_true : (b : Bool) → b ≡ true → not b ≡ true → ⊥
not_true true p q = false≢true q
not_true false p q = false≢true p

no_clash : (a b : Sym) (c : ℕ) → clash a b ≡ true → Is a c → Is b c → ⊥
no_clash (Byte a) (Byte b) c h p q = not_true (a == b) (eq-eqb a b (sym p ∙ q)) h
no_clash (Byte a) Digit c h p q = not_true (is_ascii_digit a) (ap (λ (n : ℕ). is_ascii_digit n) (sym p) ∙ q) h
no_clash Digit (Byte b) c h p q = not_true (is_ascii_digit b) (ap (λ (n : ℕ). is_ascii_digit n) (sym q) ∙ p) h
no_clash Digit Digit c h p q = false≢true h

pub no_fit : (s t : List Sym) (l : List ℕ) → apart s t ≡ true → Fits s l → Fits t l → ⊥
no_fit [] t l h p q = false≢true h
no_fit (a ∷ s) [] l h p q = false≢true h
no_fit (a ∷ s) (b ∷ t) [] h p q = p
no_fit (a ∷ s) (b ∷ t) (c ∷ l) h p q = by_clash (clash a b) refl h (λ k. no_fit s t l k p.1 q.1)
  where
    by_clash : (t1 : Bool) → clash a b ≡ t1 → elim t1 as (λ c. Bool) [ true ↦ true | false ↦ apart s t ] ≡ true
        → (apart s t ≡ true → ⊥) → ⊥
    by_clash true e h more = no_clash a b c e p.0 q.0
    by_clash false e h more = more h

abbrev pub bytes : List ℕ → List Sym
bytes [] = []
bytes (c ∷ x) = Byte c ∷ bytes x

pub fits-after : (x : List ℕ) (s : List Sym) (l : List ℕ) → Fits s l → Fits (bytes x ++ s) (x ++ l)
fits-after [] s l h = h
fits-after (c ∷ x) s l h = (refl, fits-after x s l h)

-- literal texts
pub no_way : (x y r s : List ℕ) → apart (bytes x) (bytes y) ≡ true → x ++ r ≡ y ++ s → ⊥
no_way [] y r s a e = false≢true a
no_way (c ∷ x) [] r s a e = false≢true a
no_way (c ∷ x) (d ∷ y) r s a e =
    by_clash (clash (Byte c) (Byte d)) refl a (λ k. no_way x y r s k (ap (λ (l : List ℕ). tail l) e))
  where
    by_clash : (t1 : Bool) → clash (Byte c) (Byte d) ≡ t1
        → elim t1 as (λ c. Bool) [ true ↦ true | false ↦ apart (bytes x) (bytes y) ] ≡ true
        → (apart (bytes x) (bytes y) ≡ true → ⊥) → ⊥
    by_clash true h a more = no_clash (Byte c) (Byte d) c h refl (ap (λ (l : List ℕ). head l) e)
    by_clash false h a more = more a
