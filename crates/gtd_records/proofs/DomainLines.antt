-- No byte of a time domain's text ends a line: no token has such a byte, and spaces are none.
use Rattle.std.proofs.Common.{◌≡◌, ◌∙◌, sym, ap, refl, arith, ◌+◌, ◌-◌, ◌<◌, ◌≤◌, ◌&&◌, ◌||◌, ◌==◌, ◌⊎◌, inl, inr, ℕ, zero, suc}
use Rattle.std.proofs.Common.{Bool, true, false, List, [], ◌∷◌, ◌++◌, length, drop}
use Rattle.std.specs.Prelude.{slice_index}
use Rattle.std.specs.Char.{is_ascii_digit}
use Rattle.std.specs.List.{list_any}
use Rattle.std.specs.Str.{all_ascii_digits}
use Rattle.std.proofs.lemmas.Bool.{cases_Bool, eqb-true}
use Rattle.std.proofs.lemmas.Bool.Decides.{nat_tests}
use Rattle.std.proofs.lemmas.List.{get_or-drop}
use Rattle.gtd_core.specs.Trees.{Tree}
use Rattle.gtd_text.specs.ComputedFields.{is_start_letter}
use Rattle.gtd_text.specs.Lexing.{AreSpaces}
use Rattle.gtd_text.specs.ComputedLexing.{IsSign, IsToken, Reads, field, sign}
use Rattle.gtd_text.specs.Reading.{StandsFor}
use Rattle.gtd_text.specs.declared.token.Token.{Token}
use Rattle.gtd_text.specs.declared.token.TokenKind.{TokenKind}
use Rattle.gtd_text.specs.declared.token.TokenKind.TheVariants.{OpenBracket, CloseBracket, OpenParenthesis, CloseParenthesis}
use Rattle.gtd_text.specs.declared.token.TokenKind.TheVariants.{OpenBrace, CloseBrace, Plus, Star, Minus, Field}
use Rattle.gtd_text.specs.facts.LexingForms.{tokens_in_parts}
use Rattle.gtd_records.specs.Cut.{is_line_end}
use Rattle.gtd_records.specs.facts.IndexFacts.{by_le}

sign_clear : (kind : TokenKind) (byte : ℕ) → IsSign kind byte → is_line_end byte ≡ false
sign_clear OpenBracket byte e = ap is_line_end e
sign_clear CloseBracket byte e = ap is_line_end e
sign_clear OpenParenthesis byte e = ap is_line_end e
sign_clear CloseParenthesis byte e = ap is_line_end e
sign_clear OpenBrace byte e = ap is_line_end e
sign_clear CloseBrace byte e = ap is_line_end e
sign_clear Plus byte e = ap is_line_end e
sign_clear Star byte e = ap is_line_end e
sign_clear Minus byte e = ap is_line_end e
sign_clear (Field letter value digits) byte e = absurd e

line_end_is : (byte : ℕ) (a b : Bool) → (a || b) ≡ true → (a ≡ true → byte ≡ 13) → (b ≡ true → byte ≡ 10)
    → (byte ≡ 13) ⊎ (byte ≡ 10)
line_end_is byte true b h p q = inl (p refl)
line_end_is byte false b h p q = inr (q h)

letter_clear : (letter : ℕ) → is_start_letter letter ≡ true → is_line_end letter ≡ false
letter_clear letter known =
    elim (cases_Bool (is_line_end letter)) [
      | inl e ↦ absurd (elim (line_end_is letter (letter == 13) (letter == 10) e (eqb-true letter 13) (eqb-true letter 10)) [
        | inl s ↦ (let k : false ≡ true = sym (ap is_start_letter s) ∙ known in cc)
        | inr s ↦ (let k : false ≡ true = sym (ap is_start_letter s) ∙ known in cc)
      ])
      | inr e ↦ e
    ]

digit_clear : (c : ℕ) → is_ascii_digit c ≡ true → is_line_end c ≡ false
digit_clear c h = grind (arith, nat_tests)

both : (a b : Bool) → (a && b) ≡ true → (a ≡ true) × (b ≡ true)
both true b h = (refl, h)
both false b h = absurd cc

digits_clear : (digits rest : List ℕ) (i : ℕ) → all_ascii_digits digits ≡ true → i < length digits
    → is_line_end (slice_index (digits ++ rest) i) ≡ false
digits_clear [] rest i all lt = absurd (omega arith)
digits_clear (c ∷ digits) rest zero all lt = digit_clear c (both (is_ascii_digit c) (all_ascii_digits digits) all).0
digits_clear (c ∷ digits) rest (suc i) all lt =
    digits_clear digits rest i (both (is_ascii_digit c) (all_ascii_digits digits) all).1 (omega arith)

field_clear : (letter : ℕ) (digits rest : List ℕ) (i : ℕ) → is_start_letter letter ≡ true → all_ascii_digits digits ≡ true
    → i < 1 + length digits → is_line_end (slice_index (letter ∷ (digits ++ rest)) i) ≡ false
field_clear letter digits rest zero known all lt = letter_clear letter known
field_clear letter digits rest (suc i) known all lt = digits_clear digits rest i all (omega arith)

-- no byte from one place up to but not including another ends a line
abbrev Clear : List ℕ → ℕ → ℕ → Type 0
Clear text from to = (place : ℕ) → from ≤ place → place < to → is_line_end (slice_index text place) ≡ false

at_place : (text bytes : List ℕ) (n i : ℕ) → drop n text ≡ bytes → slice_index text (n + i) ≡ slice_index bytes i
at_place text bytes n i e = sym (get_or-drop n text i 0) ∙ ap (λ (l : List ℕ). slice_index l i) e

token_clear : (text : List ℕ) (token : Token) → IsToken text token → Clear text token.from token.to
token_clear text token (sign byte rest e is to) = λ place le lt.
    let same : place ≡ token.from + 0 = omega (arith, le, lt, to) in
    ap (λ (p : ℕ). is_line_end (slice_index text p)) same ∙ ap is_line_end (at_place text (byte ∷ rest) token.from 0 e)
    ∙ sign_clear token.kind byte is
token_clear text token (field letter digits known h k to) = λ place le lt.
    let same : place ≡ token.from + (place - token.from) = omega (arith, le) in
    ap (λ (p : ℕ). is_line_end (slice_index text p)) same
    ∙ ap is_line_end (at_place text (letter ∷ (digits ++ h.rest)) token.from (place - token.from) h.stand)
    ∙ field_clear letter digits h.rest (place - token.from) known h.all (omega (arith, le, lt, to))

spaces_clear : (text : List ℕ) (from to : ℕ) → AreSpaces text from to → Clear text from to
spaces_clear text from to s = λ place le lt. ap is_line_end (s.1 place le lt)

clear_on : (text : List ℕ) (a b c : ℕ) → Clear text a b → Clear text b c → Clear text a c
clear_on text a b c p q = λ place le lt.
    by_le {P = is_line_end (slice_index text place) ≡ false} b place (λ h. q place h lt) (λ h. p place le h)

reads_clear : (text : List ℕ) (from : ℕ) (tokens : List Token) (to : ℕ) → Reads text from tokens to → Clear text from to
reads_clear text from [] to r = spaces_clear text from to r
reads_clear text from (token ∷ tokens) to r =
    clear_on text from token.from to (spaces_clear text from token.from r.0)
    (clear_on text token.from token.to to (token_clear text token r.1) (reads_clear text token.to tokens to r.2))

all_clear : (text : List ℕ) → ((place : ℕ) → place < length text → is_line_end (slice_index text place) ≡ false)
    → list_any is_line_end text ≡ false
all_clear [] h = refl
all_clear (b ∷ text) h =
    rw (h zero (omega arith), all_clear text (λ place lt. h (suc place) (omega arith))) refl

-- a text that stands for an expression is on one line
pub domain_line : (text : List ℕ) (tree : Tree) → StandsFor text tree → list_any is_line_end text ≡ false
domain_line text tree is =
    all_clear text (λ place lt. reads_clear text 0 is.tokens (length text) (tokens_in_parts text is.tokens is.read)
    place (omega arith) lt)
