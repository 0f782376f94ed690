-- The signs of opening hours, and the spaces, also those of a text processor.
use Rattle.std.specs.Prelude.{ℕ, ◌+◌, ◌&&◌, ◌||◌, ◌==◌, not, nat_le, nat_lt, Bool, List, [], ◌∷◌, length}
use Rattle.std.specs.Prelude.{Option, Some, None}
use Rattle.std.specs.Prelude.{if◌then◌else◌, option_map}
use Rattle.std.specs.List.{prefix_len}
use Rattle.gtd_hours_loose_tokens.specs.declared.token.LooseKind.{LooseKind}
use Rattle.gtd_hours_loose_tokens.specs.declared.token.LooseKind.TheVariants.{Comma, Semicolon, Dash, Slash, Colon, OpenBracket}
use Rattle.gtd_hours_loose_tokens.specs.declared.token.LooseKind.TheVariants.{CloseBracket}
use Rattle.gtd_hours_loose_tokens.specs.declared.token.LooseKind.TheVariants.{OpenParenthesis, CloseParenthesis}
use Rattle.gtd_hours_loose_tokens.specs.declared.token.LooseKind.TheVariants.{Unread, Comment, Quoted}

-- What a token stands for, and how many bytes it has.
abbrev pub Front : Type 0
Front = LooseKind × ℕ

abbrev pub of_length : ℕ → LooseKind → Front
of_length n kind = (kind, n)

-- The byte is no quote (34), and is a space (32).
abbrev pub is_no_quote : ℕ → Bool
is_no_quote byte = not (byte == 34)

abbrev pub is_space : ℕ → Bool
is_space byte = byte == 32

-- The sign that a byte is: , 44, ; 59, - 45, / 47, : 58, [ 91, ] 93, ( 40, ) 41, + 43.
abbrev pub sign_of : ℕ → Option LooseKind
sign_of byte =
    if byte == 44 then Some Comma
    else if byte == 59 then Some Semicolon
    else if byte == 45 then Some Dash
    else if byte == 47 then Some Slash
    else if byte == 58 then Some Colon
    else if byte == 91 then Some OpenBracket
    else if byte == 93 then Some CloseBracket
    else if byte == 40 then Some OpenParenthesis
    else if byte == 41 then Some CloseParenthesis
    else if byte == 43 then Some Unread
    else None

-- How long a comment is, with its first quote, after which come these bytes.
abbrev pub comment_length : List ℕ → ℕ
comment_length rest =
    if nat_lt (prefix_len is_no_quote rest) (length rest) then prefix_len is_no_quote rest + 2
    else prefix_len is_no_quote rest + 1

-- The second bar of two.
abbrev pub bars_front : List ℕ → Option Front
bars_front [] = None
bars_front (byte ∷ rest) = if byte == 124 then Some (Unread, 2) else None

-- The dashes U+2010 to U+2014 and U+2212, and the quotes U+201C to U+201E, behind their first byte.
abbrev pub is_dash : ℕ → ℕ → Bool
is_dash second third = ((second == 128) && (nat_le 144 third && nat_le third 148)) || ((second == 136) && (third == 146))

abbrev pub is_quote : ℕ → ℕ → Bool
is_quote second third = (second == 128) && (nat_le 156 third && nat_le third 158)

abbrev pub quote_length : List ℕ → ℕ
quote_length (second ∷ third ∷ rest) = if is_quote second third then 3 else 0
quote_length rest = 0

-- A comment that begins with one of these quotes ends with the next of them, or with a plain one (34): how many bytes that sign
-- has, none if the bytes begin with no such sign.
abbrev pub end_length : ℕ → List ℕ → ℕ
end_length byte rest = if byte == 34 then 1 else if byte == 226 then quote_length rest else 0

-- How long such a comment is behind its first quote, with that sign if there is one.
abbrev pub quoted_length : List ℕ → ℕ
quoted_length [] = 0
quoted_length (byte ∷ rest) = if nat_lt 0 (end_length byte rest) then end_length byte rest else quoted_length rest + 1

-- A dash, or such a comment, behind its first byte.
abbrev pub mark_front : List ℕ → Option Front
mark_front (second ∷ third ∷ rest) =
    if is_dash second third then Some (Dash, 3)
    else if is_quote second third then Some (Quoted, quoted_length rest + 3)
    else None
mark_front rest = None

abbrev pub sign_front : ℕ → List ℕ → Option Front
sign_front byte rest =
    if byte == 34 then Some (Comment, comment_length rest)
    else if byte == 124 then bars_front rest
    else if byte == 226 then mark_front rest
    else option_map (of_length 1) (sign_of byte)

-- How many bytes the space has with which bytes begin, none if they begin with no space: a space, a tab (9), or one of the
-- spaces U+00A0 and U+202F, at which no line is broken.
abbrev pub second_of_two : List ℕ → ℕ
second_of_two [] = 0
second_of_two (byte ∷ rest) = if byte == 160 then 2 else 0

abbrev pub last_of_three : List ℕ → ℕ
last_of_three (second ∷ third ∷ rest) = if (second == 128) && (third == 175) then 3 else 0
last_of_three rest = 0

abbrev pub other_space : ℕ → List ℕ → ℕ
other_space byte rest =
    if byte == 9 then 1
    else if byte == 194 then second_of_two rest
    else if byte == 226 then last_of_three rest
    else 0

abbrev pub space_length : List ℕ → ℕ
space_length [] = 0
space_length (byte ∷ rest) = if byte == 32 then 1 else other_space byte rest
