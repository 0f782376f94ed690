-- What tokens are, and with which ones tokens begin.
use Rattle.std.specs.Prelude.{◌==◌, Bool, true, false, List, [], ◌∷◌}
use Rattle.gtd_hours_tokens.specs.declared.token.Token.{Token}
use Rattle.gtd_hours_tokens.specs.declared.token.TokenKind.{TokenKind}
use Rattle.gtd_hours_tokens.specs.declared.token.TokenKind.TheVariants as kind

abbrev pub is_month : TokenKind → Bool
is_month (kind.Month m) = true
is_month k = false

abbrev pub is_weekday : TokenKind → Bool
is_weekday (kind.Weekday d) = true
is_weekday k = false

abbrev pub is_number : TokenKind → Bool
is_number (kind.Number value digits) = true
is_number k = false

-- a number of four digits
abbrev pub is_year : TokenKind → Bool
is_year (kind.Number value digits) = digits == 4
is_year k = false

abbrev pub is_dash : TokenKind → Bool
is_dash kind.Dash = true
is_dash k = false

abbrev pub is_plus : TokenKind → Bool
is_plus kind.Plus = true
is_plus k = false

-- the sign of an offset
abbrev pub is_sign : TokenKind → Bool
is_sign kind.Plus = true
is_sign kind.Dash = true
is_sign k = false

-- `day` or `days`
abbrev pub is_day : TokenKind → Bool
is_day kind.Day = true
is_day k = false

abbrev pub is_bracket : TokenKind → Bool
is_bracket kind.OpenBracket = true
is_bracket k = false

abbrev pub is_closing : TokenKind → Bool
is_closing kind.CloseBracket = true
is_closing k = false

-- The first of the tokens is so.
abbrev pub begins : (TokenKind → Bool) → List Token → Bool
begins is [] = false
begins is (t ∷ ts) = is t.kind

-- the tokens behind the first one
abbrev pub later : List Token → List Token
later [] = []
later (t ∷ ts) = ts
