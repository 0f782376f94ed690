-- A text that is made of words, each of which is a token.
use Rattle.std.proofs.Common.{◌≡◌, ℕ, ◌+◌, ◌≤◌, Bool, true, false, cond, List, [], ◌∷◌, ◌++◌, length, drop, Some, None, refl}
use Rattle.std.proofs.Common.{sym, ap, ◌∙◌, arith, append_assoc, length-append}
use Rattle.std.specs.List.{take_while}
use Rattle.std.specs.Char.{is_ascii_digit}
use Rattle.std.specs.Str.{all_ascii_digits}
use Rattle.std.proofs.lemmas.List.{append-nil}
use Rattle.gtd_text.specs.declared.token.Token.{Token}
use Rattle.gtd_text.specs.declared.token.TokenKind.{TokenKind}
use Rattle.gtd_text.specs.declared.token.TokenKind.TheVariants.{Field}
use Rattle.gtd_text.specs.ComputedFields.{is_start_letter}
use Rattle.gtd_text.specs.Lexing.{kinds}
use Rattle.gtd_text.specs.ComputedLexing.{BeginsNoDigit, Reads, AreTokens}
use Rattle.gtd_text.specs.TokenAt.{field_number, sign_of, field_of, kind_at_front, length_of}
use Rattle.gtd_scan.specs.facts.Runs.{run_front}
use Rattle.gtd_text.specs.facts.TokenForms.{few_digits, stands_by_kind}

-- a token and its text
abbrev pub Word : Type 0
Word = TokenKind × List ℕ

abbrev pub text_of : List Word → List ℕ
text_of [] = []
text_of (word ∷ words) = word.1 ++ text_of words

abbrev pub kinds_of : List Word → List TokenKind
kinds_of [] = []
kinds_of (word ∷ words) = word.0 ∷ kinds_of words

pub text_of-append : (a b : List Word) → text_of (a ++ b) ≡ text_of a ++ text_of b
text_of-append [] b = refl
text_of-append (word ∷ a) b = ap (λ (l : List ℕ). word.1 ++ l) (text_of-append a b)
    ∙ sym (append_assoc word.1 (text_of a) (text_of b))

pub kinds_of-append : (a b : List Word) → kinds_of (a ++ b) ≡ kinds_of a ++ kinds_of b
kinds_of-append [] b = refl
kinds_of-append (word ∷ a) b = ap (λ (l : List TokenKind). word.0 ∷ l) (kinds_of-append a b)

-- the text is the token, whatever follows except a digit
pub record IsWord (word : Word) : Type 0 where
  pub reads : (rest : List ℕ) → BeginsNoDigit rest → kind_at_front (word.1 ++ rest) ≡ Some word.0
  pub long : length word.1 ≡ length_of word.0
  pub no_digit : (rest : List ℕ) → BeginsNoDigit (word.1 ++ rest)

abbrev pub AreWords : List Word → Type 0
AreWords [] = Unit {0}
AreWords (word ∷ words) = IsWord word × AreWords words

pub AreWords-append : (a b : List Word) → AreWords a → AreWords b → AreWords (a ++ b)
AreWords-append [] b h k = k
AreWords-append (word ∷ a) b h k = (h.0, AreWords-append a b h.1 k)

words_begin : (words : List Word) → AreWords words → BeginsNoDigit (text_of words)
words_begin [] h = refl
words_begin (word ∷ words) h = h.0.no_digit (text_of words)

-- the tokens, one after the other from a place on
abbrev pub placed : ℕ → List Word → List Token
placed from [] = []
placed from (word ∷ words) = record { kind = word.0; from = from; to = from + length_of word.0 }
    ∷ placed (from + length_of word.0) words

pub kinds-placed : (from : ℕ) (words : List Word) → kinds (placed from words) ≡ kinds_of words
kinds-placed from [] = refl
kinds-placed from (word ∷ words) = ap (λ (l : List TokenKind). word.0 ∷ l) (kinds-placed (from + length_of word.0) words)

drop_front : (a b : List ℕ) (n : ℕ) → n ≡ length a → drop n (a ++ b) ≡ b
drop_front [] b n e = ap (λ (n : ℕ). drop n b) e
drop_front (x ∷ a) b n e = ap (λ (n : ℕ). drop n (x ∷ (a ++ b))) e ∙ drop_front a b (length a) refl

reads_words : (words : List Word) (text before : List ℕ) (from : ℕ) → AreWords words → text ≡ before ++ text_of words → from
    ≡ length before → Reads text from (placed from words) (length text)
reads_words [] text before from h e n =
    let all : length text ≡ length before = ap length e ∙ ap length (append-nil before) in
    (omega (arith, all, n), λ place le lt. absurd (omega (arith, all, n)))
reads_words (word ∷ words) text before from h e n =
    let rest : drop from text ≡ word.1 ++ text_of words = ap (drop from) e ∙ drop_front before (word.1 ++ text_of words) from n in
    let here : kind_at_front (drop from text) ≡ Some word.0 =
    ap kind_at_front rest ∙ h.0.reads (text_of words) (words_begin words h.1) in (
      (omega arith, λ place le lt. absurd (omega arith)),
      stands_by_kind text from word.0 here,
      reads_words words text (before ++ word.1) (from + length_of word.0) h.1
          (e ∙ sym (append_assoc before word.1 (text_of words))) (omega (arith, length-append before word.1, h.0.long, n)),
    )

-- words are the tokens of their text
pub are_tokens : (words : List Word) → AreWords words → AreTokens (text_of words) (placed 0 words)
are_tokens words h = reads_words words (text_of words) [] 0 h refl refl

-- ---- fields

-- decimal digits, one to six
pub record AreDigits (digits : List ℕ) : Type 0 where
  pub all : all_ascii_digits digits ≡ true
  pub some : 1 ≤ length digits
  pub few : length digits ≤ 6

-- the token of a letter and digits, and its text
abbrev pub field_kind : ℕ → List ℕ → TokenKind
field_kind letter digits = Field letter (field_number digits) (length digits)

abbrev pub field_word : ℕ → List ℕ → Word
field_word letter digits = (field_kind letter digits, letter ∷ digits)

reads_field : (letter : ℕ) (digits : List ℕ) → AreDigits digits → field_of letter digits ≡ Some (field_kind letter digits)
reads_field letter digits h =
    ap (λ (b : Bool). cond b (Some (Field letter (field_number digits) (length digits))) None) (few_digits digits h.some h.few)

pub is_field_word : (letter : ℕ) (digits : List ℕ) → is_start_letter letter ≡ true → is_ascii_digit letter ≡ false
    → AreDigits digits → IsWord (field_word letter digits)
is_field_word letter digits known no_digit h = record {
  reads = λ rest none.
      ap (λ (b : Bool). cond b (field_of letter (take_while is_ascii_digit (digits ++ rest))) (sign_of letter)) known
      ∙ ap (field_of letter) (run_front is_ascii_digit digits rest (h.all, none))
      ∙ reads_field letter digits h;
  long = omega arith;
  no_digit = λ rest. no_digit;
}
