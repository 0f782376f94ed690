-- A line is read off its words: two lines of the grammar with the same words are the same.
use Rattle.std.proofs.Common.{◌≡◌, ℕ, ◌/◌, ◌%◌, ◌<◌, Bool, true, false, List, [], ◌∷◌, ◌++◌, length, refl}
use Rattle.std.proofs.Common.{sym, ap, subst}
use Rattle.std.proofs.Common.{◌∙◌, arith, append_assoc, ◌⊎◌, inl, inr}
use Rattle.std.specs.Prelude.{◌==◌, ◌||◌, not, decimal}
use Rattle.std.specs.Char.{is_ascii_digit}
use Rattle.std.proofs.lemmas.Bool.{false≢true, eqb-true, and_parts}
use Rattle.std.proofs.lemmas.List.{append_cancel_left}
use Rattle.std.proofs.lemmas.Fmt.{decimal_nonempty}
use Rattle.gtd_phrases.specs.Grammar.{Group, Later, NoMonth}
use Rattle.gtd_phrases.specs.Grammar.{IsIn, IsLine, members, next}
use Rattle.gtd_languages.specs.Forms.{form_of}
use Rattle.gtd_phrases.specs.Pieces.{after, before, figures_of, number_text, phrase_text, text}
use Rattle.gtd_phrases.specs.Ranges.{IsWritten}
use Rattle.gtd_phrases.proofs.PhraseTerms.{Figures, Nothing, Plain, Two, Four, Form, Zero, One, EndsInOne, EndsInTwo, EndsInThree}
use Rattle.gtd_phrases.proofs.PhraseTerms.{Other}
use Rattle.gtd_phrases.proofs.PhraseTerms.{Language, Phrase, Piece}
use Rattle.gtd_phrases.proofs.Numbers.{AreDigits, Both, NoDigit, are_digits, decimal_then, digit, four_then, split_digits}
use Rattle.gtd_phrases.proofs.Numbers.{two_then}
use Rattle.gtd_phrases.proofs.Skeletons.{Byte, Digit, Fits, Sym, apart, bytes, fits-after, no_fit, no_way}
use Rattle.gtd_phrases.proofs.Tables.{Good, afters_of, ahead_of, all_apart_from, all_differ, all_sound, apart_from}
use Rattle.gtd_phrases.proofs.Tables.{differ}
use Rattle.gtd_phrases.proofs.Tables.{differs_from_all, digit_of, entries, entry, head_of, heads, is_counted}
use Rattle.gtd_phrases.proofs.Tables.{is_plain}
use Rattle.gtd_phrases.proofs.Tables.{is_sound, later_heads, nexts_by, no_digit, no_digits, no_month_heads, same_text}
use Rattle.gtd_phrases.proofs.Tables.{told_after, told_ahead, all_empty, is_empty}

-- ---- the words of one phrase, and what follows

abbrev rest_of : Language → Phrase → ℕ → List ℕ → List ℕ
rest_of l p n r = number_text (figures_of p) n ++ (after l p (form_of n) ++ r)

pub text_is : (l : Language) (p : Phrase) (n : ℕ) (r : List ℕ) → phrase_text l p n ++ r ≡ before l p ++ rest_of l p n r
unfolding phrase_text
text_is l p n r =
    append_assoc (before l p ++ number_text (figures_of p) n) (after l p (form_of n)) r
    ∙ append_assoc (before l p) (number_text (figures_of p) n) (after l p (form_of n) ++ r)

-- the first byte of a number is a digit
first_digit : (ds r : List ℕ) → AreDigits ds → 0 < length ds → Fits (Digit ∷ []) (ds ++ r)
first_digit [] r h some = absurd (omega arith)
first_digit (c ∷ ds) r h some = (h.0, tt)

number_fits : (f : Figures) (n : ℕ) (r : List ℕ) → IsWritten f n → Fits (digit_of f) (number_text f n ++ r)
unfolding number_text
number_fits Nothing n r h = tt
number_fits Plain n r h =
    first_digit (decimal n) r (are_digits n (omega (arith, h))) (decimal_nonempty n (omega (arith, h)))
number_fits Two n r h = (digit (n / 10) (omega (arith, h)), tt)
number_fits Four n r h = (digit (n / 1000) (omega (arith, h)), tt)

pub head_fits : (l : Language) (p : Phrase) (n : ℕ) (r : List ℕ) → IsWritten (figures_of p) n → Fits (head_of l p)
    (phrase_text l p n ++ r)
head_fits l p n r h =
    subst (λ (x : List ℕ). Fits (head_of l p) x) (sym (text_is l p n r))
    (fits-after (before l p) (digit_of (figures_of p)) (rest_of l p n r)
    (number_fits (figures_of p) n (after l p (form_of n) ++ r) h))

-- ---- words after a number

pub one_after : (P : List ℕ → Type 0) (l : Language) (p : Phrase) (f : Form) → P (after l p Zero) → P (after l p One)
    → P (after l p EndsInOne) → P (after l p EndsInTwo) → P (after l p EndsInThree) → P (after l p Other) → P (after l p f)
one_after P l p Zero a b c d e f = a
one_after P l p One a b c d e f = b
one_after P l p EndsInOne a b c d e f = c
one_after P l p EndsInTwo a b c d e f = d
one_after P l p EndsInThree a b c d e f = e
one_after P l p Other a b c d e f = f

no_digit_after : (l : Language) (p : Phrase) (f : Form) → no_digits (afters_of l p) ≡ true → no_digit (after l p f) ≡ true
no_digit_after l p f h =
    let a = and_parts (no_digit (after l p Zero)) _ h in
    let b = and_parts (no_digit (after l p One)) _ a.1 in
    let c = and_parts (no_digit (after l p EndsInOne)) _ b.1 in
    let d = and_parts (no_digit (after l p EndsInTwo)) _ c.1 in
    let e = and_parts (no_digit (after l p EndsInThree)) _ d.1 in
    let g = and_parts (no_digit (after l p Other)) true e.1 in
    one_after (λ x. no_digit x ≡ true) l p f a.0 b.0 c.0 d.0 e.0 g.0

no_digit_then : (x r : List ℕ) → no_digit x ≡ true → NoDigit (x ++ r)
no_digit_then [] r h = absurd (false≢true h)
no_digit_then (c ∷ x) r h = is_not (is_ascii_digit c) h
  where
    is_not : (b : Bool) → not b ≡ true → b ≡ false
    is_not true h = absurd (false≢true h)
    is_not false h = refl

apart_each : (x : List ℕ) (l : Language) (p : Phrase) (f : Form) → apart_from x (afters_of l p) ≡ true
    → apart (bytes x) (bytes (after l p f)) ≡ true
apart_each x l p f h =
    let a = and_parts (apart (bytes x) (bytes (after l p Zero))) _ h in
    let b = and_parts (apart (bytes x) (bytes (after l p One))) _ a.1 in
    let c = and_parts (apart (bytes x) (bytes (after l p EndsInOne))) _ b.1 in
    let d = and_parts (apart (bytes x) (bytes (after l p EndsInTwo))) _ c.1 in
    let e = and_parts (apart (bytes x) (bytes (after l p EndsInThree))) _ d.1 in
    let g = and_parts (apart (bytes x) (bytes (after l p Other))) true e.1 in
    one_after (λ y. apart (bytes x) (bytes y) ≡ true) l p f a.0 b.0 c.0 d.0 e.0 g.0

apart_both : (l : Language) (p q : Phrase) (f g : Form) → all_apart_from (afters_of l p) (afters_of l q) ≡ true
    → apart (bytes (after l p f)) (bytes (after l q g)) ≡ true
apart_both l p q f g h =
    let ys = afters_of l q in
    let a = and_parts (apart_from (after l p Zero) ys) _ h in
    let b = and_parts (apart_from (after l p One) ys) _ a.1 in
    let c = and_parts (apart_from (after l p EndsInOne) ys) _ b.1 in
    let d = and_parts (apart_from (after l p EndsInTwo) ys) _ c.1 in
    let e = and_parts (apart_from (after l p EndsInThree) ys) _ d.1 in
    let k = and_parts (apart_from (after l p Other) ys) true e.1 in
    apart_each (after l p f) l q g
    (one_after (λ x. apart_from x ys ≡ true) l p f a.0 b.0 c.0 d.0 e.0 k.0)

-- ---- the digits of a number

pub digits_of : (f : Figures) (n : ℕ) → IsWritten f n → is_counted f ≡ true → AreDigits (number_text f n)
unfolding number_text
digits_of Nothing n h c = absurd (false≢true c)
digits_of Plain n h c = are_digits n (omega (arith, h))
digits_of Two n h c = (digit (n / 10) (omega (arith, h)), (digit (n % 10) (omega arith), tt))
digits_of Four n h c = (
  digit (n / 1000) (omega (arith, h)),
  (
    digit (n / 100 % 10) (omega arith),
    (
      digit (n / 10 % 10) (omega arith),
      (
        digit (n % 10)
            (omega arith),
        tt,
      ),
    ),
  ),
)

pub some_digits : (f : Figures) (n : ℕ) → IsWritten f n → is_counted f ≡ true → number_text f n ≡ [] → ⊥
unfolding number_text
some_digits Nothing n h c e = false≢true c
some_digits Plain n h c e =
    let some = decimal_nonempty n (omega (arith, h)) in
    let none : length (decimal n) ≡ 0 = ap (λ (x : List ℕ). length x) e in
    absurd (omega (arith, some, none))
some_digits Two n h c e = absurd cc
some_digits Four n h c e = absurd cc

text_same : (x y : List ℕ) → same_text x y ≡ true → x ≡ y
text_same [] [] h = refl
text_same [] (d ∷ y) h = absurd (false≢true h)
text_same (c ∷ x) [] h = absurd (false≢true h)
text_same (c ∷ x) (d ∷ y) h =
    let parts = and_parts (c == d) (same_text x y) h in
    ap (λ (n : ℕ). n ∷ x) (eqb-true c d parts.0) ∙ ap (λ (l : List ℕ). d ∷ l) (text_same x y parts.1)

-- ---- two phrases differ

no_after : (l : Language) (p q : Phrase) (m n : ℕ) (r s : List ℕ) → IsWritten (figures_of p) m → IsWritten (figures_of q) n
    → told_after (entry l p) (entry l q) ≡ true → phrase_text l p m ++ r ≡ phrase_text l q n ++ s → ⊥
no_after l p q m n r s h k t e =
    let a = and_parts (is_counted (figures_of p)) _ t in
    let b = and_parts (is_counted (figures_of q)) _ a.1 in
    let c = and_parts (same_text (before l p) (before l q)) _ b.1 in
    let d = and_parts (no_digits (afters_of l p)) _ c.1 in
    let f = and_parts (no_digits (afters_of l q)) (all_apart_from (afters_of l p) (afters_of l q)) d.1 in
    let rests = append_cancel_left (before l p) (rest_of l p m r) (rest_of l q n s)
    (sym (text_is l p m r) ∙ e ∙ text_is l q n s
    ∙ ap (λ (x : List ℕ). x ++ rest_of l q n s) (sym (text_same (before l p) (before l q) c.0))) in
    let split = split_digits (number_text (figures_of p) m) (number_text (figures_of q) n) (after l p (form_of m) ++ r)
    (after l q (form_of n) ++ s) (digits_of (figures_of p) m h a.0) (digits_of (figures_of q) n k b.0)
    (no_digit_then (after l p (form_of m)) r (no_digit_after l p (form_of m) d.0))
    (no_digit_then (after l q (form_of n)) s (no_digit_after l q (form_of n) f.0)) rests in
    no_way (after l p (form_of m)) (after l q (form_of n)) r s (apart_both l p q (form_of m) (form_of n) f.1) split.1

in_heads : (l : Language) (p : Phrase) (ps : List Phrase) (head other : List Sym) → IsIn p ps
    → ahead_of head (heads (entries l ps)) other ≡ true → apart (head ++ head_of l p) other ≡ true
in_heads l p [] head other i h = absurd i
in_heads l p (q ∷ ps) head other (inl same) h =
    let parts = and_parts (apart (head ++ head_of l q) other) _ h in
    ap (λ (x : Phrase). apart (head ++ head_of l x) other) same ∙ parts.0
in_heads l p (q ∷ ps) head other (inr i) h =
    in_heads l p ps head other i (and_parts (apart (head ++ head_of l q) other)
    (ahead_of head (heads (entries l ps)) other) h).1

fits-ahead : (x : List ℕ) (f : Figures) (t : List Sym) (r : List ℕ) → is_counted f ≡ false → Fits t r
    → Fits ((bytes x ++ digit_of f) ++ t) (x ++ r)
fits-ahead [] Nothing t r c h = h
fits-ahead (b ∷ x) Nothing t r c h = (refl, fits-ahead x Nothing t r c h)
fits-ahead x Plain t r c h = absurd (false≢true (sym c))
fits-ahead x Two t r c h = absurd (false≢true (sym c))
fits-ahead x Four t r c h = absurd (false≢true (sym c))

pub no_number : (f : Figures) (n : ℕ) → is_counted f ≡ false → number_text f n ≡ []
unfolding number_text
no_number Nothing n c = refl
no_number Plain n c = absurd (false≢true (sym c))
no_number Two n c = absurd (false≢true (sym c))
no_number Four n c = absurd (false≢true (sym c))

empty_is : (x : List ℕ) → is_empty x ≡ true → x ≡ []
empty_is [] h = refl
empty_is (c ∷ x) h = absurd (false≢true h)

pub empty_after : (l : Language) (p : Phrase) (f : Form) → all_empty (afters_of l p) ≡ true → after l p f ≡ []
empty_after l p f h =
    let a = and_parts (is_empty (after l p Zero)) _ h in
    let b = and_parts (is_empty (after l p One)) _ a.1 in
    let c = and_parts (is_empty (after l p EndsInOne)) _ b.1 in
    let d = and_parts (is_empty (after l p EndsInTwo)) _ c.1 in
    let e = and_parts (is_empty (after l p EndsInThree)) _ d.1 in
    let g = and_parts (is_empty (after l p Other)) true e.1 in
    empty_is (after l p f) (one_after (λ x. is_empty x ≡ true) l p f a.0 b.0 c.0 d.0 e.0 g.0)

-- the words of a phrase without a number
words_alone : (l : Language) (p : Phrase) (n : ℕ) (r : List ℕ) → is_counted (figures_of p) ≡ false
    → all_empty (afters_of l p) ≡ true → phrase_text l p n ++ r ≡ before l p ++ r
words_alone l p n r c h =
    text_is l p n r
    ∙ ap (λ (x : List ℕ). before l p ++ (x ++ (after l p (form_of n) ++ r))) (no_number (figures_of p) n c)
    ∙ ap (λ (x : List ℕ). before l p ++ (x ++ r)) (empty_after l p (form_of n) h)

is_false : (b : Bool) → not b ≡ true → b ≡ false
is_false true h = absurd (false≢true h)
is_false false h = refl

-- a skeleton of what follows
follow_fits : (l : Language) (g : Group) (head other : List Sym) (P : List Piece) (s : List ℕ) → IsLine g P
    → ahead_of head (nexts_by g (later_heads l) (no_month_heads l)) other ≡ true
    → (t : List Sym) × (apart (head ++ t) other ≡ true) × Fits t (text l P ++ 10 ∷ s)
follow_fits l g head other [] s line h = by_place g h
  where
    by_place : (g : Group) → ahead_of head (nexts_by g (later_heads l) (no_month_heads l)) other ≡ true
        → (t : List Sym) × (apart (head ++ t) other ≡ true) × Fits t (10 ∷ s)
    by_place Later h = (Byte 10 ∷ [], (and_parts (apart (head ++ Byte 10 ∷ []) other) _ h).0, (refl, tt))
    by_place NoMonth h = (Byte 10 ∷ [], (and_parts (apart (head ++ Byte 10 ∷ []) other) _ h).0, (refl, tt))
    by_place g h = ([], (and_parts (apart (head ++ []) other) true h).0, tt)
follow_fits l g head other (p ∷ P) s line h =
    by_place g line.0 h
  where
    fits : Fits (head_of l p.phrase) (phrase_text l p.phrase p.number ++ text l P ++ 10 ∷ s)
    fits =
        subst (λ (x : List ℕ). Fits (head_of l p.phrase) x)
        (sym (append_assoc (phrase_text l p.phrase p.number) (text l P) (10 ∷ s)))
        (head_fits l p.phrase p.number (text l P ++ 10 ∷ s) line.1)

    by_place : (g : Group) → IsIn p.phrase (members g)
        → ahead_of head (nexts_by g (later_heads l) (no_month_heads l)) other ≡ true
        → (t : List Sym) × (apart (head ++ t) other ≡ true) × Fits t (phrase_text l p.phrase p.number ++ text l P ++ 10 ∷ s)
    by_place Later i h = (
      head_of l p.phrase,
      in_heads l p.phrase (members Later) head other i
          (and_parts (apart (head ++ Byte 10 ∷ []) other) (ahead_of head (later_heads l) other) h).1,
      fits,
    )
    by_place NoMonth i h = (
      head_of l p.phrase,
      in_heads l p.phrase (members NoMonth) head other i
          (and_parts (apart (head ++ Byte 10 ∷ []) other) (ahead_of head (no_month_heads l) other) h).1,
      fits,
    )
    by_place g i h = ([], (and_parts (apart (head ++ []) other) true h).0, tt)

-- the words of a line that begins with this phrase
abbrev from : Language → Phrase → ℕ → List Piece → List ℕ → List ℕ
from l p n P r = phrase_text l p n ++ (text l P ++ 10 ∷ r)

no_ahead : (l : Language) (p q : Phrase) (m n : ℕ) (P Q : List Piece) (r s : List ℕ) → IsLine (next p) P
    → IsWritten (figures_of q) n → told_ahead (later_heads l) (no_month_heads l) (entry l p) (entry l q) ≡ true
    → from l p m P r ≡ from l q n Q s → ⊥
no_ahead l p q m n P Q r s line k t e =
    let a = and_parts (not (is_counted (figures_of p))) _ t in
    let b = and_parts (all_empty (afters_of l p)) _ a.1 in
    let c = is_false (is_counted (figures_of p)) a.0 in
    let f = follow_fits l (next p) (head_of l p) (head_of l q) P r line b.1 in
    no_fit (head_of l p ++ f.0) (head_of l q) (from l q n Q s) f.1
    (subst (λ (x : List ℕ). Fits (head_of l p ++ f.0) x)
    (sym (words_alone l p m (text l P ++ 10 ∷ r) c b.0) ∙ e)
    (fits-ahead (before l p) (figures_of p) f.0 (text l P ++ 10 ∷ r) c f.2))
    (head_fits l q n (text l Q ++ 10 ∷ s) k)

by_difference : (l : Language) (p q : Phrase) (m n : ℕ) (P Q : List Piece) (r s : List ℕ) → IsLine (next p) P
    → IsLine (next q) Q → IsWritten (figures_of p) m → IsWritten (figures_of q) n
    → differ (later_heads l) (no_month_heads l) (entry l p) (entry l q) ≡ true → from l p m P r ≡ from l q n Q s → ⊥
by_difference l p q m n P Q r s line line' h k d e =
    by_heads (apart (head_of l p) (head_of l q)) refl (told_after (entry l p) (entry l q)) refl
    (told_ahead (later_heads l) (no_month_heads l) (entry l p) (entry l q)) refl d
  where
    by_heads : (a : Bool) → apart (head_of l p) (head_of l q) ≡ a → (b : Bool) → told_after (entry l p) (entry l q) ≡ b
        → (c : Bool) → told_ahead (later_heads l) (no_month_heads l) (entry l p) (entry l q) ≡ c
        → elim a as (λ c. Bool) [
          | true ↦ true
          | false ↦ elim b as (λ c. Bool) [
            | true ↦ true
            | false ↦ elim c as (λ c. Bool) [
              | true ↦ true
              | false ↦ told_ahead (later_heads l) (no_month_heads l) (entry l q) (entry l p)
            ]
          ]
        ] ≡ true → ⊥
    by_heads true a b b1 c c1 d =
        no_fit (head_of l p) (head_of l q) (from l q n Q s) a
        (subst (λ (x : List ℕ). Fits (head_of l p) x) e (head_fits l p m (text l P ++ 10 ∷ r) h))
        (head_fits l q n (text l Q ++ 10 ∷ s) k)
    by_heads false a true b c c1 d = no_after l p q m n (text l P ++ 10 ∷ r) (text l Q ++ 10 ∷ s) h k b e
    by_heads false a false b true c d = no_ahead l p q m n P Q r s line k c e
    by_heads false a false b false c d = no_ahead l q p n m Q P s r line' h d (sym e)

-- ---- phrases in the same place

either_same : (l : Language) (p q : Phrase) (qs : List Phrase)
    → differs_from_all (later_heads l) (no_month_heads l) (entry l p) (entries l qs) ≡ true → IsIn q qs
    → differ (later_heads l) (no_month_heads l) (entry l p) (entry l q) ≡ true
either_same l p q [] h i = absurd i
either_same l p q (x ∷ qs) h (inl same) =
    ap (λ (y : Phrase). differ (later_heads l) (no_month_heads l) (entry l p) (entry l y)) same
    ∙ (and_parts (differ (later_heads l) (no_month_heads l) (entry l p) (entry l x)) _ h).0
either_same l p q (x ∷ qs) h (inr i) =
    either_same l p q qs (and_parts (differ (later_heads l) (no_month_heads l) (entry l p) (entry l x))
    (differs_from_all (later_heads l) (no_month_heads l) (entry l p) (entries l qs)) h).1 i

abbrev Differ : Language → Phrase → Phrase → Type 0
Differ l p q = differ (later_heads l) (no_month_heads l) (entry l p) (entry l q) ≡ true

in_place : (l : Language) (p q : Phrase) (ps : List Phrase)
    → all_differ (later_heads l) (no_month_heads l) (entries l ps) ≡ true → IsIn p ps → IsIn q ps
    → (p ≡ q) ⊎ (Differ l p q ⊎ Differ l q p)
in_place l p q [] h i j = absurd i
in_place l p q (x ∷ ps) h (inl a) (inl b) = inl (a ∙ sym b)
in_place l p q (x ∷ ps) h (inl a) (inr j) =
    let parts = and_parts (differs_from_all (later_heads l) (no_month_heads l) (entry l x) (entries l ps)) _ h in
    inr (inl (subst (λ (y : Phrase). Differ l y q) (sym a) (either_same l x q ps parts.0 j)))
in_place l p q (x ∷ ps) h (inr i) (inl b) =
    let parts = and_parts (differs_from_all (later_heads l) (no_month_heads l) (entry l x) (entries l ps)) _ h in
    inr (inr (subst (λ (y : Phrase). Differ l y p) (sym b) (either_same l x p ps parts.0 i)))
in_place l p q (x ∷ ps) h (inr i) (inr j) =
    in_place l p q ps (and_parts (differs_from_all (later_heads l) (no_month_heads l) (entry l x) (entries l ps))
    (all_differ (later_heads l) (no_month_heads l) (entries l ps)) h).1 i j

sound_in : (l : Language) (p : Phrase) (ps : List Phrase) → all_sound (entries l ps) ≡ true → IsIn p ps
    → is_sound (entry l p) ≡ true
sound_in l p [] h i = absurd i
sound_in l p (x ∷ ps) h (inl a) =
    ap (λ (y : Phrase). is_sound (entry l y)) a ∙ (and_parts (is_sound (entry l x)) _ h).0
sound_in l p (x ∷ ps) h (inr i) =
    sound_in l p ps (and_parts (is_sound (entry l x)) (all_sound (entries l ps)) h).1 i

-- ---- the number of a phrase

number_then : (l : Language) (p : Phrase) (f : Figures) (m n : ℕ) (r s : List ℕ) → IsWritten f m → IsWritten f n
    → (not (is_plain f) || no_digits (afters_of l p)) ≡ true
    → number_text f m ++ (after l p (form_of m) ++ r) ≡ number_text f n ++ (after l p (form_of n) ++ s) → Both m n r s
unfolding number_text
number_then l p Nothing m n r s h k plain e =
    let same : m ≡ n = h ∙ sym k in (
      same,
      append_cancel_left (after l p (form_of m)) r s
          (e ∙ ap (λ (x : ℕ). after l p (form_of x) ++ s) (sym same)),
    )
number_then l p Plain m n r s h k plain e =
    let p1 = decimal_then m n (after l p (form_of m) ++ r) (after l p (form_of n) ++ s) (omega (arith, h)) (omega (arith, k))
    (no_digit_then (after l p (form_of m)) r (no_digit_after l p (form_of m) plain))
    (no_digit_then (after l p (form_of n)) s (no_digit_after l p (form_of n) plain)) e in (
      p1.0,
      append_cancel_left (after l p (form_of m)) r s
          (p1.1 ∙ ap (λ (x : ℕ). after l p (form_of x) ++ s) (sym p1.0)),
    )
number_then l p Two m n r s h k plain e =
    let p1 = two_then m n (after l p (form_of m) ++ r) (after l p (form_of n) ++ s) h k e in (
      p1.0,
      append_cancel_left (after l p (form_of m)) r s
          (p1.1 ∙ ap (λ (x : ℕ). after l p (form_of x) ++ s) (sym p1.0)),
    )
number_then l p Four m n r s h k plain e =
    let p1 = four_then m n (after l p (form_of m) ++ r) (after l p (form_of n) ++ s) h k e in (
      p1.0,
      append_cancel_left (after l p (form_of m)) r s
          (p1.1 ∙ ap (λ (x : ℕ). after l p (form_of x) ++ s) (sym p1.0)),
    )

same_phrase : (l : Language) (p : Phrase) (m n : ℕ) (r s : List ℕ) → IsWritten (figures_of p) m → IsWritten (figures_of p) n
    → is_sound (entry l p) ≡ true → phrase_text l p m ++ r ≡ phrase_text l p n ++ s → Both m n r s
same_phrase l p m n r s h k sound e =
    number_then l p (figures_of p) m n r s h k
    (and_parts (apart (Byte 10 ∷ []) (head_of l p)) (not (is_plain (figures_of p)) || no_digits (afters_of l p)) sound).1
    (append_cancel_left (before l p) (rest_of l p m r) (rest_of l p n s) (sym (text_is l p m r) ∙ e ∙ text_is l p n s))

-- ---- lines

no_end : (l : Language) (q : Phrase) (n : ℕ) (r s : List ℕ) → is_sound (entry l q) ≡ true → IsWritten (figures_of q) n
    → 10 ∷ r ≡ phrase_text l q n ++ s → ⊥
no_end l q n r s sound k e =
    no_fit (Byte 10 ∷ []) (head_of l q) (phrase_text l q n ++ s)
    (and_parts (apart (Byte 10 ∷ []) (head_of l q)) _ sound).0
    (subst (λ (x : List ℕ). Fits (Byte 10 ∷ []) x) e (refl, tt)) (head_fits l q n s k)

same_piece : (p q : Piece) → p.phrase ≡ q.phrase → p.number ≡ q.number → p ≡ q
same_piece p q e h =
    let make : Phrase → ℕ → Piece = λ phrase number. record { phrase = phrase; number = number } in
    ap (λ (x : Phrase). make x p.number) e ∙ ap (λ (n : ℕ). make q.phrase n) h

good_parts : (l : Language) (g : Group) → Good l → (all_sound (entries l (members g)) ≡ true)
    × (all_differ (later_heads l) (no_month_heads l) (entries l (members g)) ≡ true)
good_parts l g good =
    and_parts (all_sound (entries l (members g))) (all_differ (later_heads l) (no_month_heads l) (entries l (members g)))
    (good.places g)

pub read : (l : Language) → Good l → (g : Group) (P Q : List Piece) (r s : List ℕ) → IsLine g P → IsLine g Q
    → text l P ++ 10 ∷ r ≡ text l Q ++ 10 ∷ s → Both P Q r s
read l good g [] [] r s h k e =
    (refl, ap (λ (x : List ℕ). elim x as (λ x. List ℕ) [ [] ↦ [] | (c ∷ x) ↦ x ]) e)
read l good g [] (q ∷ Q) r s h k e =
    absurd (no_end l q.phrase q.number r (text l Q ++ 10 ∷ s)
    (sound_in l q.phrase (members g) (good_parts l g good).0 k.0) k.1
    (e ∙ append_assoc (phrase_text l q.phrase q.number) (text l Q) (10 ∷ s)))
read l good g (p ∷ P) [] r s h k e =
    absurd (no_end l p.phrase p.number s (text l P ++ 10 ∷ r)
    (sound_in l p.phrase (members g) (good_parts l g good).0 h.0) h.1
    (sym e ∙ append_assoc (phrase_text l p.phrase p.number) (text l P) (10 ∷ r)))
read l good g (p ∷ P) (q ∷ Q) r s h k e =
    by_phrase (in_place l p.phrase q.phrase (members g) (good_parts l g good).1 h.0 k.0)
    (λ line one. read l good (next q.phrase) P Q r s line k.2 one)
  where
    words : from l p.phrase p.number P r ≡ from l q.phrase q.number Q s
    words =
        sym (append_assoc (phrase_text l p.phrase p.number) (text l P) (10 ∷ r)) ∙ e
        ∙ append_assoc (phrase_text l q.phrase q.number) (text l Q) (10 ∷ s)

    by_same : p.phrase ≡ q.phrase
        → (IsLine (next q.phrase) P → text l P ++ 10 ∷ r ≡ text l Q ++ 10 ∷ s → Both P Q r s) → Both (p ∷ P) (q ∷ Q) r s
    by_same same more =
        let one = same_phrase l q.phrase p.number q.number (text l P ++ 10 ∷ r) (text l Q ++ 10 ∷ s)
        (subst (λ (x : Phrase). IsWritten (figures_of x) p.number) same h.1) k.1
        (sound_in l q.phrase (members g) (good_parts l g good).0 k.0)
        (ap (λ (x : Phrase). from l x p.number P r) (sym same) ∙ words) in
        let rest = more (subst (λ (x : Phrase). IsLine (next x) P) same h.2) one.1 in
        (ap (λ (x : Piece). x ∷ P) (same_piece p q same one.0) ∙ ap (λ (X : List Piece). q ∷ X) rest.0, rest.1)

    by_phrase : (p.phrase ≡ q.phrase) ⊎ (Differ l p.phrase q.phrase ⊎ Differ l q.phrase p.phrase)
        → (IsLine (next q.phrase) P → text l P ++ 10 ∷ r ≡ text l Q ++ 10 ∷ s → Both P Q r s) → Both (p ∷ P) (q ∷ Q) r s
    by_phrase (inl same) more = by_same same more
    by_phrase (inr (inl d)) more =
        absurd (by_difference l p.phrase q.phrase p.number q.number P Q r s h.2 k.2 h.1 k.1 d words)
    by_phrase (inr (inr d)) more =
        absurd (by_difference l q.phrase p.phrase q.number p.number Q P s r k.2 h.2 k.1 h.1 d (sym words))
