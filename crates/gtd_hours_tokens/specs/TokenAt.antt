-- The token that begins at a place of a text, computed from the bytes there. `Lexing` says what a token is, and a law
-- says that the two agree.
use Rattle.std.specs.Prelude.{ℕ, ◌+◌, ◌&&◌, ◌==◌, not, nat_le, nat_lt, List, [], ◌∷◌, length, drop, Option, Some, None}
use Rattle.std.specs.Prelude.{if◌then◌else◌, option_map}
use Rattle.std.specs.List.{take_while, prefix_len}
use Rattle.std.specs.Char.{is_ascii_alphabetic, is_ascii_digit}
use Rattle.std.specs.Str.Parse.{digits_value}
use Rattle.gtd_hours_tokens.specs.declared.token.Token.{Token}
use Rattle.gtd_hours_tokens.specs.declared.token.TokenKind.{TokenKind}
use Rattle.gtd_hours_tokens.specs.declared.token.TokenKind.TheVariants.{Comma, Semicolon, Dash, Slash, Colon, OpenBracket}
use Rattle.gtd_hours_tokens.specs.declared.token.TokenKind.TheVariants.{CloseBracket, Plus}
use Rattle.gtd_hours_tokens.specs.declared.token.TokenKind.TheVariants.{Unsupported, Number, Time}
use Rattle.gtd_hours_tokens.specs.Lexing.{begins_minutes, is_no_quote}
use Rattle.gtd_hours_tokens.specs.Words.{word_of}

-- A token, and how many bytes it has.
abbrev pub Front : Type 0
Front = TokenKind × ℕ

-- A word of this length.
abbrev pub of_length : ℕ → TokenKind → Front
of_length n kind = (kind, n)

abbrev pub word_front : List ℕ → Option Front
word_front letters = option_map (of_length (length letters)) (word_of letters)

-- One to four digits.
abbrev pub number : List ℕ → Option Front
number digits =
    if nat_le (length digits) 4 then Some (Number (digits_value 10 digits) (length digits), length digits) else None

-- Two digits, a colon, two digits, and no colon with a digit behind it.
abbrev pub time : List ℕ → List ℕ → List ℕ → Option Front
time hour minute rest =
    if length hour == 2 && length minute == 2 && not (begins_minutes rest)
    then Some (Time (digits_value 10 hour) (digits_value 10 minute), 5)
    else None

abbrev pub time_front : List ℕ → List ℕ → Option Front
time_front hour bytes = time hour (take_while is_ascii_digit bytes) (drop (prefix_len is_ascii_digit bytes) bytes)

abbrev pub number_front : List ℕ → List ℕ → Option Front
number_front digits rest = if begins_minutes rest then time_front digits (drop 1 rest) else number digits

-- The sign that a byte is: , 44, ; 59, - 45, / 47, : 58, [ 91, ] 93, + 43.
abbrev pub sign_of : ℕ → Option TokenKind
sign_of byte =
    if byte == 44 then Some Comma
    else if byte == 59 then Some Semicolon
    else if byte == 45 then Some Dash
    else if byte == 47 then Some Slash
    else if byte == 58 then Some Colon
    else if byte == 91 then Some OpenBracket
    else if byte == 93 then Some CloseBracket
    else if byte == 43 then Some Plus
    else None

-- How long a comment is, with its first quote, after which come these bytes.
abbrev pub comment_length : List ℕ → ℕ
comment_length rest =
    if nat_lt (prefix_len is_no_quote rest) (length rest) then prefix_len is_no_quote rest + 2
    else prefix_len is_no_quote rest + 1

-- The second bar of two.
abbrev pub bars_front : List ℕ → Option Front
bars_front [] = None
bars_front (byte ∷ rest) = if byte == 124 then Some (Unsupported, 2) else None

abbrev pub sign_front : ℕ → List ℕ → Option Front
sign_front byte rest =
    if byte == 34 then Some (Unsupported, comment_length rest)
    else if byte == 124 then bars_front rest
    else option_map (of_length 1) (sign_of byte)

-- The token that bytes begin with.
abbrev pub front : List ℕ → Option Front
front [] = None
front (byte ∷ rest) =
    if is_ascii_alphabetic byte then word_front (take_while is_ascii_alphabetic (byte ∷ rest))
    else if is_ascii_digit byte
    then number_front (take_while is_ascii_digit (byte ∷ rest)) (drop (prefix_len is_ascii_digit (byte ∷ rest)) (byte ∷ rest))
    else sign_front byte rest

-- The token at a place.
abbrev pub placed : ℕ → Front → Token
placed place found = record { kind = found.0; from = place; to = place + found.1 }

-- The token that begins at this place of the text, if one does.
abbrev pub token_at : List ℕ → ℕ → Option Token
token_at text place = option_map (placed place) (front (drop place text))
