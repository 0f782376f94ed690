-- The token that begins at a place of a text, computed from the bytes there. `Lexing` says what a token is, and a law
-- says that the two agree.
use Rattle.std.specs.Prelude.{ℕ, ◌+◌, ◌-◌, ◌*◌, ◌&&◌, ◌==◌, List, [], ◌∷◌, length, drop, Option, Some, None, if◌then◌else◌, fold}
use Rattle.std.specs.List.{take_while}
use Rattle.std.specs.Char.{is_ascii_digit}
use Rattle.gtd_core.specs.declared.fault.Fault.{Fault}
use Rattle.gtd_core.specs.declared.fault.Fault.TheVariants as faults
use Rattle.gtd_text.specs.declared.token.Token.{Token}
use Rattle.gtd_text.specs.declared.token.TokenKind.{TokenKind}
use Rattle.gtd_text.specs.declared.token.TokenKind.TheVariants.{OpenBracket, CloseBracket, OpenParenthesis, CloseParenthesis}
use Rattle.gtd_text.specs.declared.token.TokenKind.TheVariants.{OpenBrace, CloseBrace, Plus, Star, Minus, Field}
use Rattle.gtd_core.specs.FieldTable.{is_from_to}
use Rattle.gtd_text.specs.ComputedFields.{is_start_letter}

-- The number that decimal digits stand for.
abbrev pub field_number : List ℕ → ℕ
field_number digits = fold (λ n digit. n * 10 + (digit - 48)) 0 digits

-- The sign that a byte is: [ 91, ] 93, ( 40, ) 41, { 123, } 125, + 43, * 42, - 45.
abbrev pub sign_of : ℕ → Option TokenKind
sign_of byte =
    if byte == 91 then Some OpenBracket
    else if byte == 93 then Some CloseBracket
    else if byte == 40 then Some OpenParenthesis
    else if byte == 41 then Some CloseParenthesis
    else if byte == 123 then Some OpenBrace
    else if byte == 125 then Some CloseBrace
    else if byte == 43 then Some Plus
    else if byte == 42 then Some Star
    else if byte == 45 then Some Minus
    else None

-- A field of this letter and these one to six digits.
abbrev pub field_of : ℕ → List ℕ → Option TokenKind
field_of letter digits =
    if is_from_to 1 6 (length digits) then Some (Field letter (field_number digits) (length digits)) else None

-- The token that bytes begin with: a sign, or a letter with all the digits that directly follow it. Each letter of a
-- duration is also one of a start.
abbrev pub kind_at_front : List ℕ → Option TokenKind
kind_at_front [] = None
kind_at_front (byte ∷ bytes) =
    if is_start_letter byte then field_of byte (take_while is_ascii_digit bytes) else sign_of byte

-- How many bytes a token of this kind has.
abbrev pub length_of : TokenKind → ℕ
length_of (Field letter value digits) = digits + 1
length_of sign = 1

-- The token of this kind that begins at this place.
abbrev pub token_from : ℕ → Option TokenKind → Option Token
token_from place None = None
token_from place (Some kind) = Some (record { kind = kind; from = place; to = place + length_of kind })

-- The token that begins at this place of the text, if one does.
abbrev pub token_at : List ℕ → ℕ → Option Token
token_at text place = token_from place (kind_at_front (drop place text))

-- The fault if no token begins here: `Fuzzy` for a `z` (122) that is followed by one to six digits and no more.
abbrev pub fault_at_front : List ℕ → Fault
fault_at_front [] = faults.BadToken
fault_at_front (byte ∷ bytes) =
    if byte == 122 && is_from_to 1 6 (length (take_while is_ascii_digit bytes)) then faults.Fuzzy else faults.BadToken
