-- What the lexer has read so far.
use Rattle.std.proofs.Common.{◌≡◌, ℕ, ◌+◌, ◌<◌, ◌≤◌, Bool, true, false, cond, List, [], ◌∷◌, ◌++◌, length, drop, Option, Some}
use Rattle.std.proofs.Common.{None, refl, sym, ap, subst, ◌∙◌, arith}
use Rattle.std.specs.Prelude.{slice_index, ◌==◌}
use Rattle.std.proofs.lemmas.List.{append-nil, length-take, length-drop}
use Rattle.std.specs.List.{take_while, prefix_len}
use Rattle.std.specs.Char.{is_ascii_digit}
use Rattle.gtd_scan.specs.facts.OneReading.{HasReadTokens, token_more}
use Rattle.gtd_scan.specs.facts.SpaceRuns.{no_spaces, space_more}
use Rattle.gtd_text.specs.declared.token.Token.{Token}
use Rattle.gtd_text.specs.declared.token.TokenKind.{TokenKind}
use Rattle.gtd_text.specs.declared.token.TokenKind.TheVariants.{OpenBracket, CloseBracket, OpenParenthesis, CloseParenthesis}
use Rattle.gtd_text.specs.declared.token.TokenKind.TheVariants.{OpenBrace, CloseBrace, Plus, Star, Minus, Field}
use Rattle.gtd_core.specs.FieldTable.{is_from_to}
use Rattle.gtd_text.specs.ComputedFields.{is_start_letter}
use Rattle.gtd_text.specs.Lexing.{AreSpaces}
use Rattle.gtd_text.specs.ComputedLexing.{IsToken, Reads}
use Rattle.gtd_text.specs.TokenAt.{sign_of, field_of, kind_at_front, length_of, token_from, token_at}
use Rattle.gtd_text.specs.facts.TokenForms.{stands}

pick : (P : TokenKind → Type 0) (b : Bool) (x : TokenKind) (o : Option TokenKind) (k : TokenKind) → P x
    → (o ≡ Some k → P k) → cond b (Some x) o ≡ Some k → P k
pick P true x o k here h e = let same : x ≡ k = cc in subst P same here
pick P false x o k here h e = h e

-- what holds of each sign holds of one that a byte is read as
pub each_sign : (P : TokenKind → Type 0) → P OpenBracket → P CloseBracket → P OpenParenthesis → P CloseParenthesis
    → P OpenBrace → P CloseBrace → P Plus → P Star → P Minus
    → (byte : ℕ) (kind : TokenKind) → sign_of byte ≡ Some kind → P kind
each_sign P left right opens closes begins ends plus star minus byte kind =
    pick P (byte == 91) OpenBracket _ kind left
    (pick P (byte == 93) CloseBracket _ kind right
    (pick P (byte == 40) OpenParenthesis _ kind opens
    (pick P (byte == 41) CloseParenthesis _ kind closes
    (pick P (byte == 123) OpenBrace _ kind begins
    (pick P (byte == 125) CloseBrace _ kind ends
    (pick P (byte == 43) Plus _ kind plus
    (pick P (byte == 42) Star _ kind star
    (pick P (byte == 45) Minus None kind minus (λ e. absurd cc)))))))))

sign_length : (byte : ℕ) (kind : TokenKind) → sign_of byte ≡ Some kind → length_of kind ≡ 1
sign_length = each_sign (λ kind. length_of kind ≡ 1) refl refl refl refl refl refl refl refl refl

field_length : (b : Bool) (letter value digits : ℕ) (kind : TokenKind) → cond b (Some (Field letter value digits)) None
    ≡ Some kind → length_of kind ≡ digits + 1
field_length true letter value digits kind e = let same : Field letter value digits ≡ kind = cc in ap length_of (sym same)
field_length false letter value digits kind e = absurd cc

front_length : (b : Bool) (byte : ℕ) (bytes : List ℕ) (kind : TokenKind)
    → cond b (field_of byte (take_while is_ascii_digit bytes)) (sign_of byte) ≡ Some kind → (0 < length_of kind)
    × (length_of kind ≤ length (byte ∷ bytes))
front_length true byte bytes kind e =
    let len = field_length (is_from_to 1 6 (length (take_while is_ascii_digit bytes))) byte _
    (length (take_while is_ascii_digit bytes)) kind e in
    let short = length-take (prefix_len is_ascii_digit bytes) bytes in
    (omega (arith, len), omega (arith, len, short))
front_length false byte bytes kind e = let len = sign_length byte kind e in (omega (arith, len), omega (arith, len))

kind_length : (bytes : List ℕ) (kind : TokenKind) → kind_at_front bytes ≡ Some kind → (0 < length_of kind)
    × (length_of kind ≤ length bytes)
kind_length [] kind e = absurd cc
kind_length (byte ∷ bytes) kind e = front_length (is_start_letter byte) byte bytes kind e

-- a token that was found, and where it is
pub record Found (text : List ℕ) (place : ℕ) (token : Token) : Type 0 where
  pub from : token.from ≡ place
  pub past : place < token.to
  pub inside : token.to ≤ length text
  pub again : IsToken text token

found_from : (text : List ℕ) (place : ℕ) (o : Option TokenKind) (token : Token) → place < length text
    → kind_at_front (drop place text) ≡ o → token_from place o ≡ Some token → Found text place token
found_from text place None token lt e f = absurd cc
found_from text place (Some kind) token lt e f =
    let same : record { kind = kind; from = place; to = place + length_of kind } ≡ token = cc in
    let len = kind_length (drop place text) kind e in
    let from : token.from ≡ place = ap (λ (t : Token). t.from) (sym same) in
    let to : token.to ≡ place + length_of kind = ap (λ (t : Token). t.to) (sym same) in
    record {
      from = from;
      past = omega (arith, to, len.0);
      inside = omega (arith, to, len.1, length-drop place text);
      again = (stands text place token (ap (token_from place) e ∙ f)).1;
    }

pub found : (text : List ℕ) (place : ℕ) (token : Token) → place < length text → token_at text place ≡ Some token
    → Found text place token
found text place token lt e = found_from text place (kind_at_front (drop place text)) token lt refl e

pub reads_space : (text : List ℕ) (place : ℕ) (tokens : List Token) (to : ℕ) → slice_index text place ≡ 32
    → Reads text (place + 1) tokens to → Reads text place tokens to
reads_space text place [] to space h = space_more text place to space h
reads_space text place (token ∷ tokens) to space h = (space_more text place token.from space h.0, h.1, h.2)

-- these tokens were read up to this place
abbrev pub HasRead : List ℕ → List Token → ℕ → Type 0
HasRead text = HasReadTokens (λ (token : Token). token.from) (λ (token : Token). token.to) (IsToken text) text

pub all_read : (text : List ℕ) (tokens : List Token) (place : ℕ) → HasRead text tokens place → Reads text 0 tokens place
all_read text tokens place h = subst (λ l. Reads text 0 l place) (append-nil tokens) (h [] place (no_spaces text place))

pub read_more : (text : List ℕ) (tokens : List Token) (place : ℕ) (token : Token) → HasRead text tokens place
    → Found text place token → HasRead text (tokens ++ token ∷ []) token.to
read_more text tokens place token h f =
    token_more (λ (token : Token). token.from) (λ (token : Token). token.to) (IsToken text) text tokens place token h
    (subst (λ n. AreSpaces text place n) (sym f.from) (no_spaces text place)) f.again

pub read_space : (text : List ℕ) (tokens : List Token) (place : ℕ) → slice_index text place ≡ 32 → HasRead text tokens place
    → HasRead text tokens (place + 1)
read_space text tokens place space h more to r = h more to (reads_space text place more to space r)
