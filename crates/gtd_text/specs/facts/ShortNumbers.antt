-- The number of a field has at most six digits.
use Rattle.std.proofs.Common.{◌≡◌, ℕ, ◌+◌, ◌^◌, ◌<◌, ◌≤◌, Bool, true, false, cond, List, [], ◌∷◌, length, drop, Option, Some}
use Rattle.std.proofs.Common.{None, refl, ap, arith}
use Rattle.std.specs.Prelude.{nat_le}
use Rattle.std.specs.List.{take_while}
use Rattle.std.specs.Char.{is_ascii_digit}
use Rattle.std.specs.Str.{all_ascii_digits}
use Rattle.std.proofs.lemmas.Bool.{leb-true}
use Rattle.std.proofs.lemmas.Str.Parse.{digits_value_short}
use Rattle.gtd_text.specs.declared.token.Token.{Token}
use Rattle.gtd_text.specs.declared.token.TokenKind.{TokenKind}
use Rattle.gtd_text.specs.declared.token.TokenKind.TheVariants.{Field}
use Rattle.gtd_core.specs.FieldTable.{is_from_to}
use Rattle.gtd_text.specs.ComputedFields.{is_start_letter}
use Rattle.gtd_text.specs.Lexing.{kinds}
use Rattle.gtd_text.specs.ComputedLexing.{Reads, AreTokens}
use Rattle.gtd_text.specs.TokenAt.{field_number, sign_of, field_of, kind_at_front, length_of, token_from}
use Rattle.gtd_text.specs.facts.Builds.{and_right}
use Rattle.gtd_scan.specs.facts.Runs.{front_all}
use Rattle.gtd_text.specs.facts.TokenForms.{own, computed}
use Rattle.gtd_text.specs.facts.Lexed.{each_sign}
use Rattle.gtd_text.specs.facts.Ranges.{IsShort, AreShort}

small_number : (digits : List ℕ) → all_ascii_digits digits ≡ true → length digits ≤ 6 → field_number digits ≤ 999999
small_number digits all few =
    let small : field_number digits < 10 ^ 6 = digits_value_short own digits 6 all few in omega arith

short_field : (b : Bool) (letter : ℕ) (digits : List ℕ) (kind : TokenKind) → is_from_to 1 6 (length digits) ≡ b
    → all_ascii_digits digits ≡ true → cond b (Some (Field letter (field_number digits) (length digits))) None ≡ Some kind
    → IsShort kind
short_field false letter digits kind e all h = absurd cc
short_field true letter digits kind e all h =
    let same : Field letter (field_number digits) (length digits) ≡ kind = cc in
    rw (← same) (small_number digits all (leb-true (length digits) 6 (and_right (nat_le 1 (length digits)) _ e)))

short_sign : (byte : ℕ) (kind : TokenKind) → sign_of byte ≡ Some kind → IsShort kind
short_sign = each_sign IsShort tt tt tt tt tt tt tt tt tt

short_front : (b : Bool) (byte : ℕ) (bytes : List ℕ) (kind : TokenKind)
    → cond b (field_of byte (take_while is_ascii_digit bytes)) (sign_of byte) ≡ Some kind → IsShort kind
short_front true byte bytes kind e = short_field (is_from_to 1 6 (length (take_while is_ascii_digit bytes))) byte
    (take_while is_ascii_digit bytes) kind refl (front_all is_ascii_digit bytes) e
short_front false byte bytes kind e = short_sign byte kind e

short_kind : (bytes : List ℕ) (kind : TokenKind) → kind_at_front bytes ≡ Some kind → IsShort kind
short_kind [] kind e = absurd cc
short_kind (byte ∷ bytes) kind e = short_front (is_start_letter byte) byte bytes kind e

short_from : (place : ℕ) (o : Option TokenKind) (token : Token) → ((kind : TokenKind) → o ≡ Some kind → IsShort kind)
    → token_from place o ≡ Some token → IsShort token.kind
short_from place None token h e = absurd cc
short_from place (Some kind) token h e =
    let same : record { kind = kind; from = place; to = place + length_of kind } ≡ token = cc in
    let one : kind ≡ token.kind = ap (λ (t : Token). t.kind) same in
    rw (← one) (h kind refl)

short_tokens : (text : List ℕ) (from : ℕ) (tokens : List Token) (to : ℕ) → Reads text from tokens to → AreShort (kinds tokens)
short_tokens text from [] to h = tt
short_tokens text from (token ∷ tokens) to h = (
  short_from token.from (kind_at_front (drop token.from text)) token (short_kind (drop token.from text))
      (computed text token h.1),
  short_tokens text token.to tokens to h.2,
)

pub are_short : (text : List ℕ) (tokens : List Token) → AreTokens text tokens → AreShort (kinds tokens)
are_short text tokens h = short_tokens text 0 tokens (length text) h
