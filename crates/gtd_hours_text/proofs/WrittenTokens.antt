-- Written words, numbers and signs are tokens, from the front of a text on.
use Rattle.std.proofs.Common.{◌≡◌, ℕ, ◌+◌, ◌<◌, ◌≤◌, Bool, true, false, List, [], ◌∷◌, ◌++◌, length, drop}
use Rattle.std.proofs.Common.{Some, refl, sym, ap, subst, ◌∙◌, arith, append_assoc, length-append, inl, inr}
use Rattle.std.specs.Prelude.{slice_index, ◌&&◌, decimal}
use Rattle.std.specs.Char.{is_ascii_alphabetic, is_ascii_digit, digit_value}
use Rattle.std.specs.List.{list_all}
use Rattle.std.specs.Str.Parse.{AllDigits, digits_value}
use Rattle.std.proofs.Math.Seq.{drop-append_seam, get_or-append_seam}
use Rattle.std.proofs.lemmas.Bool.{cases_order}
use Rattle.std.proofs.lemmas.Bool.Decides.{nat_tests}
use Rattle.std.proofs.lemmas.Fmt.{decimal_is_IsNumeral, length-decimal-le}
use Rattle.std.proofs.lemmas.List.{append-nil}
use Rattle.gtd_hours_text.proofs.WrittenTerms.{Token, TokenKind}
use Rattle.gtd_hours_tokens.specs.declared.token.TokenKind.TheVariants as token
use Rattle.gtd_hours_tokens.specs.Lexing.{AreSpaces, IsSign, IsToken, IsTokenText, Reads, begins, begins_minutes}
use Rattle.gtd_hours_tokens.specs.Lexing.{word as is_word, number as is_number, sign as is_sign}
use Rattle.gtd_hours_tokens.specs.Words.{word_of}
use Rattle.gtd_hours_grammar.specs.Faults.{kinds}

-- The bytes are tokens of these kinds, with spaces or none before, between and after them.
pub data Spells : List ℕ → List TokenKind → Type 0 where
  nothing : (bytes : List ℕ) → (ks : List TokenKind) → bytes ≡ [] → ks ≡ [] → Spells bytes ks
  space : (bytes rest : List ℕ) → (ks : List TokenKind) → bytes ≡ 32 ∷ rest → Spells rest ks → Spells bytes ks
  one : (bytes here rest : List ℕ) → (kind : TokenKind) → (ks more : List TokenKind) → bytes ≡ here ++ rest
      → ks ≡ kind ∷ more → IsTokenText kind here rest → Spells rest more → Spells bytes ks

-- ---- tokens at their places

pub record Placed (text : List ℕ) (from : ℕ) (ks : List TokenKind) : Type 0 where
  pub tokens : List Token
  pub reads : Reads text from tokens (length text)
  pub same : kinds tokens ≡ ks

at_end : (text before : List ℕ) (from : ℕ) → text ≡ before ++ [] → AreSpaces text from (length before)
    → AreSpaces text from (length text)
at_end text before from e spaces =
    subst (λ (n : ℕ). AreSpaces text from n) (sym (ap length (e ∙ append-nil before))) spaces

here_or_before : (text before rest : List ℕ) (from place : ℕ) → text ≡ before ++ 32 ∷ rest
    → AreSpaces text from (length before) → from ≤ place → place < length before + 1 → slice_index text place ≡ 32
here_or_before text before rest from place e spaces low high =
    let here : slice_index text (length before) ≡ 32 =
    ap (λ (l : List ℕ). slice_index l (length before)) e ∙ get_or-append_seam before 32 rest 0 in
    elim (cases_order place (length before)) [
      | inl same ↦ ap (slice_index text) same ∙ here
      | inr (inl less) ↦ spaces.1 place low less
      | inr (inr more) ↦ absurd (omega arith)
    ]

one_space : (text before rest : List ℕ) (from : ℕ) → text ≡ before ++ 32 ∷ rest → AreSpaces text from (length before)
    → AreSpaces text from (length before + 1)
one_space text before rest from e spaces =
    (omega (arith, spaces.0), λ place low high. here_or_before text before rest from place e spaces low high)

no_spaces : (text : List ℕ) (from to : ℕ) → from ≡ to → AreSpaces text from to
no_spaces text from to e = (omega (arith, e), λ place low high. absurd (omega (arith, e, low, high)))

abbrev token_from : List ℕ → List ℕ → TokenKind → Token
token_from before here kind = record { kind = kind; from = length before; to = length before + length here }

token_here : (text before here rest : List ℕ) (kind : TokenKind) → text ≡ before ++ (here ++ rest)
    → IsTokenText kind here rest → IsToken text (token_from before here kind)
token_here text before here rest kind e is = record {
  here = here;
  rest = rest;
  stand = ap (drop (length before)) e ∙ drop-append_seam before (here ++ rest);
  is = is;
  to = refl;
}

placed : (text before bytes : List ℕ) (from : ℕ) (ks : List TokenKind) → text ≡ before ++ bytes
    → AreSpaces text from (length before) → Spells bytes ks → Placed text from ks
placed text before bytes from ks e spaces (nothing b k f g) = record {
  tokens = [];
  reads = at_end text before from (e ∙ ap (λ (l : List ℕ). before ++ l) f) spaces;
  same = sym g;
}
placed text before bytes from ks e spaces (space b rest k f s) =
    let whole : text ≡ before ++ 32 ∷ rest = e ∙ ap (λ (l : List ℕ). before ++ l) f in
    placed text (before ++ 32 ∷ []) rest from ks (whole ∙ sym (append_assoc before (32 ∷ []) rest))
    (subst (λ (n : ℕ). AreSpaces text from n) (sym (length-append before (32 ∷ [])))
    (one_space text before rest from whole spaces)) s
placed text before bytes from ks e spaces (one b here rest kind k more f g is s) =
    let whole : text ≡ before ++ (here ++ rest) = e ∙ ap (λ (l : List ℕ). before ++ l) f in
    let later = placed text (before ++ here) rest (length before + length here) more
    (whole ∙ sym (append_assoc before here rest))
    (no_spaces text (length before + length here) (length (before ++ here)) (sym (length-append before here))) s in
    record {
      tokens = token_from before here kind ∷ later.tokens;
      reads = (spaces, token_here text before here rest kind whole is, later.reads);
      same = ap (λ (l : List TokenKind). kind ∷ l) later.same ∙ sym g;
    }

-- tokens from front to end are the tokens of the text
pub all_placed : (text : List ℕ) (ks : List TokenKind) → Spells text ks → Placed text 0 ks
all_placed text ks s = placed text [] text 0 ks refl (no_spaces text 0 0 refl) s

-- ---- parts of a text

-- what may follow a word, a number or a time: no letter, no digit, and no colon with a digit
abbrev pub Apart : List ℕ → Type 0
Apart rest = (begins is_ascii_alphabetic rest ≡ false) × (begins is_ascii_digit rest ≡ false) × (begins_minutes rest ≡ false)

abbrev pub Anything : List ℕ → Type 0
Anything rest = Unit {0}

-- These bytes are these tokens, where what follows them is as it must be.
pub record Spelt (Behind : List ℕ → Type 0) (text : List ℕ) (ks : List TokenKind) : Type 0 where
  pub go : (rest : List ℕ) (more : List TokenKind) → Behind rest → Spells rest more → Spells (text ++ rest) (ks ++ more)

pub joined : (B C : List ℕ → Type 0) (a b : List ℕ) (j k : List TokenKind) → Spelt B a j → Spelt C b k
    → ((rest : List ℕ) → C rest → B (b ++ rest)) → Spelt C (a ++ b) (j ++ k)
joined B C a b j k x y meets = record {
  go = λ rest more c s. subst (λ (l : List ℕ). Spells l ((j ++ k) ++ more)) (sym (append_assoc a b rest))
      (subst (λ (l : List TokenKind). Spells (a ++ (b ++ rest)) l) (sym (append_assoc j k more))
      (x.go (b ++ rest) (k ++ more) (meets rest c) (y.go rest more c s)));
}

pub loose : (a b : List ℕ) (j k : List TokenKind) → Spelt Anything a j → Spelt Apart b k → Spelt Apart (a ++ b) (j ++ k)
loose a b j k x y = joined Anything Apart a b j k x y (λ rest c. tt)

pub tight : (a : List ℕ) (k : List TokenKind) → Spelt Anything a k → Spelt Apart a k
tight a k x = record { go = λ rest more c s. x.go rest more tt s }

pub empty_spelt : Spelt Apart [] []
empty_spelt = record { go = λ rest more c s. s }

pub space_spelt : Spelt Anything (32 ∷ []) []
space_spelt = record { go = λ rest more c s. space (32 ∷ rest) rest more refl s }

pub sign_spelt : (byte : ℕ) (kind : TokenKind) → IsSign kind byte → Spelt Anything (byte ∷ []) (kind ∷ [])
sign_spelt byte kind is = record {
  go = λ rest more c s. one (byte ∷ rest) (byte ∷ []) rest kind (kind ∷ more) more refl refl (is_sign byte refl is) s;
}

-- ---- words

pub record IsName (here : List ℕ) (kind : TokenKind) : Type 0 where
  pub letters : list_all is_ascii_alphabetic here ≡ true
  pub word : word_of here ≡ Some kind

pub word_spelt : (here : List ℕ) (kind : TokenKind) → IsName here kind → Spelt Apart here (kind ∷ [])
word_spelt here kind is = record {
  go = λ rest more c s. one (here ++ rest) here rest kind (kind ∷ more) more refl refl (is_word (is.letters, c.0) is.word) s;
}

-- ---- numbers

pub number_spelt : (here : List ℕ) (value count : ℕ) → list_all is_ascii_digit here ≡ true → 1 ≤ count → count ≤ 4
    → digits_value 10 here ≡ value → length here ≡ count → Spelt Apart here (token.Number value count ∷ [])
number_spelt here value count all some few e f = record {
  go = λ rest more c s. one (here ++ rest) here rest (token.Number value count) (token.Number value count ∷ more) more refl refl
      (is_number (all, c.1) (subst (λ (n : ℕ). 1 ≤ n) (sym f) some) (subst (λ (n : ℕ). n ≤ 4) (sym f) few) c.2
      (ap (λ (n : ℕ). token.Number n count) (sym e) ∙ ap (λ (n : ℕ). token.Number (digits_value 10 here) n) (sym f))) s;
}

is_digit : (byte : ℕ) → digit_value byte < 10 → is_ascii_digit byte ≡ true
is_digit byte less = grind (arith, nat_tests)

pub both_true : (a b : Bool) → a ≡ true → b ≡ true → (a && b) ≡ true
both_true true b e f = f
both_true false b e f = absurd cc

are_digits : (here : List ℕ) → AllDigits 10 here → list_all is_ascii_digit here ≡ true
are_digits [] all = refl
are_digits (x ∷ xs) all = both_true (is_ascii_digit x) (list_all is_ascii_digit xs) (is_digit x all.0) (are_digits xs all.1)

pub decimal_spelt : (n : ℕ) → n ≤ 9999 → Spelt Apart (decimal n) (token.Number n (length (decimal n)) ∷ [])
decimal_spelt n small =
    let is = decimal_is_IsNumeral n (omega (arith, small)) in
    number_spelt (decimal n) n (length (decimal n)) (are_digits (decimal n) is.0.1) (omega (arith, is.0.0))
    (length-decimal-le 4 n (omega arith) (omega (arith, small)) (omega (arith, small))) is.1 refl
