-- Which tokens a loosely written text is made of, in letters of lower case, or the first byte where one is wrong.
use Rattle.std.specs.Prelude.{ℕ, zero, suc, ◌+◌, ◌-◌, nat_lt, ◌==◌, Bool, true, false, List, [], ◌∷◌, ◌++◌, length, drop}
use Rattle.std.specs.Prelude.{Option, Some, None}
use Rattle.std.specs.Prelude.{Result, Ok, Err, if◌then◌else◌, option_map}
use Rattle.std.specs.List.{prefix_len, take_while}
use Rattle.std.specs.Char.{is_ascii_alphabetic, is_ascii_digit}
use Rattle.gtd_hours_loose_tokens.specs.declared.token.DayNames.{DayNames}
use Rattle.gtd_hours_loose_tokens.specs.declared.token.LooseKind.{LooseKind}
use Rattle.gtd_hours_loose_tokens.specs.declared.token.LooseKind.TheVariants as kind
use Rattle.gtd_hours_loose_tokens.specs.declared.token.LooseToken.{LooseToken}
use Rattle.gtd_hours_loose_tokens.specs.declared.token.TokenFault.{TokenFault}
use Rattle.gtd_hours_loose_tokens.specs.declared.token.TokenFault.TheVariants as fault
use Rattle.gtd_hours_loose_tokens.specs.Clock.{after_digits, digits_front, digits_of}
use Rattle.gtd_hours_loose_tokens.specs.Signs.{Front, of_length, sign_front, space_length}
use Rattle.gtd_hours_loose_tokens.specs.Words.{name_of, word_of}

-- A full stop (46) directly behind a name belongs to it.
abbrev pub full_stop : List ℕ → ℕ
full_stop [] = 0
full_stop (byte ∷ rest) = if byte == 46 then 1 else 0

abbrev pub word_front : List ℕ → List ℕ → Option LooseKind → Option Front
word_front letters rest None = option_map (of_length (length letters)) (word_of letters)
word_front letters rest (Some name) = Some (name, length letters + full_stop rest)

abbrev pub after_letters : List ℕ → List ℕ
after_letters bytes = drop (prefix_len is_ascii_alphabetic bytes) bytes

-- The token that bytes begin with, and its length.
abbrev pub front : DayNames → List ℕ → Option Front
front names [] = None
front names (byte ∷ rest) =
    if is_ascii_alphabetic byte
    then word_front (take_while is_ascii_alphabetic (byte ∷ rest)) (after_letters (byte ∷ rest))
    (name_of names (take_while is_ascii_alphabetic (byte ∷ rest)))
    else if is_ascii_digit byte then digits_front (digits_of (byte ∷ rest)) (after_digits (byte ∷ rest))
    else sign_front byte rest

abbrev pub is_ambiguous : LooseKind → Bool
is_ambiguous kind.Ambiguous = true
is_ambiguous k = false

-- these tokens before what follows them
abbrev pub onto : List LooseToken → Result (List LooseToken) TokenFault → Result (List LooseToken) TokenFault
onto tokens (Ok later) = Ok (tokens ++ later)
onto tokens (Err bad) = Err bad

abbrev pub placed : ℕ → LooseKind → ℕ → LooseToken
placed place k n = record { kind = k; from = place; to = place + n }

abbrev pub by_front : ℕ → Option Front → Result (List LooseToken) TokenFault → Result (List LooseToken) TokenFault
by_front place None later = Err (fault.BadToken place)
by_front place (Some (k, n)) later =
    if is_ambiguous k then Err (fault.Ambiguous place) else onto (placed place k n ∷ []) later

abbrev pub front_length : Option Front → ℕ
front_length None = 0
front_length (Some (k, n)) = n

-- The tokens of bytes that begin at a place, where the first so many bytes have been read.
abbrev pub tokens_from : DayNames → ℕ → ℕ → List ℕ → Result (List LooseToken) TokenFault
tokens_from names zero place [] = Ok []
tokens_from names (suc k) place [] = Ok []
tokens_from names (suc k) place (byte ∷ rest) = tokens_from names k (place + 1) rest
tokens_from names zero place (byte ∷ rest) =
    if nat_lt 0 (space_length (byte ∷ rest)) then tokens_from names (space_length (byte ∷ rest) - 1) (place + 1) rest
    else by_front place (front names (byte ∷ rest))
    (tokens_from names (front_length (front names (byte ∷ rest)) - 1) (place + 1) rest)

-- The tokens of a text. Spaces stand between them, where there are some.
abbrev pub tokens_of : DayNames → List ℕ → Result (List LooseToken) TokenFault
tokens_of names text = tokens_from names 0 0 text
