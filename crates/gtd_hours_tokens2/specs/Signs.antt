-- Signs and comments of opening hours, and the spaces, also those of a text processor.
use Rattle.std.specs.Prelude.{ℕ, ◌+◌, ◌&&◌, ◌||◌, ◌==◌, nat_le, nat_lt, Bool, true, false, List, [], ◌∷◌}
use Rattle.std.specs.Prelude.{Option, Some, None, Err, if◌then◌else◌}
use Rattle.gtd_hours_tokens2.specs.declared.token.TokenKind.{TokenKind}
use Rattle.gtd_hours_tokens2.specs.declared.token.TokenKind.TheVariants as token
use Rattle.gtd_hours_tokens2.specs.declared.token.TokenFaultKind.TheVariants as fault
use Rattle.gtd_hours_tokens2.specs.Clock.{Front, found}

-- The sign that a byte is: , 44, ; 59, - 45, / 47, : 58, [ 91, ] 93, + 43, ( 40, ) 41.
abbrev pub sign_of : ℕ → Option TokenKind
sign_of byte =
    if byte == 44 then Some token.Comma
    else if byte == 59 then Some token.Semicolon
    else if byte == 45 then Some token.Dash
    else if byte == 47 then Some token.Slash
    else if byte == 58 then Some token.Colon
    else if byte == 91 then Some token.Open
    else if byte == 93 then Some token.Close
    else if byte == 43 then Some token.Plus
    else if byte == 40 then Some token.Paren
    else if byte == 41 then Some token.Unparen
    else None

-- The dashes U+2010 to U+2014 and U+2212, and the quotes U+201C to U+201E, after their first byte.
abbrev pub is_dash : ℕ → ℕ → Bool
is_dash second third = ((second == 128) && (nat_le 144 third && nat_le third 148)) || ((second == 136) && (third == 146))

abbrev pub is_quote : ℕ → ℕ → Bool
is_quote second third = (second == 128) && (nat_le 156 third && nat_le third 158)

abbrev pub quote_length : List ℕ → ℕ
quote_length (second ∷ third ∷ rest) = if is_quote second third then 3 else 0
quote_length rest = 0

-- How many bytes the sign has that ends a comment, none if the bytes begin with no such sign. A comment ends with a plain quote
-- (34), and one of a text processor, which is wide, also with the next of its quotes.
abbrev pub end_length : Bool → ℕ → List ℕ → ℕ
end_length wide byte rest = if byte == 34 then 1 else if wide && (byte == 226) then quote_length rest else 0

abbrev pub is_control : ℕ → Bool
is_control byte = nat_lt byte 32 || (byte == 127)

-- How many bytes a comment has, of which so many have been read: it ends, and has no control bytes.
abbrev pub quoted : Bool → ℕ → List ℕ → Option ℕ
quoted wide n [] = None
quoted wide n (byte ∷ rest) =
    if nat_lt 0 (end_length wide byte rest) then Some (n + end_length wide byte rest)
    else if is_control byte then None
    else quoted wide (n + 1) rest

abbrev pub comment : Bool → Option ℕ → Front
comment is_loose None = Err fault.BadToken
comment is_loose (Some n) = found token.Comment n is_loose

-- A dash or a comment of a text processor, after its first byte.
abbrev pub wide_front : List ℕ → Front
wide_front (second ∷ third ∷ rest) =
    if is_dash second third then found token.Dash 3 true
    else if is_quote second third then comment true (quoted true 3 rest)
    else Err fault.BadToken
wide_front rest = Err fault.BadToken

-- the second bar of two
abbrev pub bars_front : List ℕ → Front
bars_front [] = Err fault.BadToken
bars_front (byte ∷ rest) = if byte == 124 then found token.Bars 2 false else Err fault.BadToken

abbrev pub sign : Option TokenKind → Front
sign None = Err fault.BadToken
sign (Some kind) = found kind 1 false

abbrev pub sign_front : ℕ → List ℕ → Front
sign_front byte rest =
    if byte == 34 then comment false (quoted false 1 rest)
    else if byte == 124 then bars_front rest
    else if byte == 226 then wide_front rest
    else sign (sign_of byte)

-- How many bytes a loose space has, none if the bytes begin with none: a tab (9), or one of the spaces U+00A0 and U+202F, at
-- which no line is broken.
abbrev pub second_of_two : List ℕ → ℕ
second_of_two [] = 0
second_of_two (byte ∷ rest) = if byte == 160 then 2 else 0

abbrev pub last_of_three : List ℕ → ℕ
last_of_three (second ∷ third ∷ rest) = if (second == 128) && (third == 175) then 3 else 0
last_of_three rest = 0

abbrev pub loose_space : ℕ → List ℕ → ℕ
loose_space byte rest =
    if byte == 9 then 1
    else if byte == 194 then second_of_two rest
    else if byte == 226 then last_of_three rest
    else 0
