-- The tokens of a text and its loose spaces, one after another.
use Rattle.std.specs.Prelude.{◌≡◌, ◌≤◌, ℕ, ◌-◌, ◌||◌, Bool, true, false, List, [], ◌∷◌, drop, length, Option, Some, None, Result, Ok, Err}
use Rattle.std.specs.Option.{option_or}
use Rattle.gtd_hours_tokens2.specs.declared.token.DayNames.{DayNames}
use Rattle.gtd_hours_tokens2.specs.declared.token.Token.{Token}
use Rattle.gtd_hours_tokens2.specs.declared.token.TokenKind.{TokenKind}
use Rattle.gtd_hours_tokens2.specs.declared.token.TokenFault.{TokenFault}
use Rattle.gtd_hours_tokens2.specs.declared.token.Piece.{Piece}
use Rattle.gtd_hours_tokens2.specs.declared.token.Piece.TheVariants as piece
use Rattle.gtd_hours_tokens2.specs.declared.token.TokenFaultKind.TheVariants as fault
use Rattle.gtd_hours_tokens2.specs.declared.pairs.Before.{Before}
use Rattle.gtd_hours_tokens2.specs.declared.pairs.Before.TheVariants as before
use Rattle.gtd_hours_tokens2.specs.declared.pairs.Paired.{Paired}
use Rattle.gtd_hours_tokens2.specs.declared.cursor.Cursor.{Cursor}
use Rattle.gtd_hours_tokens2.specs.Tokens.{Lexed, Tokens, after_kind, and_pairs, four, nothing, paired, second, tokens_from, with_space, with_token, wrong}

abbrev pub with_piece : Piece → Lexed → Lexed
with_piece (piece.Token t) later = with_token t later
with_piece (piece.Space place) later = with_space place later

-- the tokens from a place of a text on, before numbers are taken as times
abbrev pub raw_from : DayNames → List ℕ → ℕ → Lexed
raw_from names text place = tokens_from names 0 place (drop place text)

-- the tokens to come
abbrev pub ahead : DayNames → List ℕ → Cursor → Lexed
ahead names text c = and_pairs c.is_time c.year c.before (raw_from names text c.place)

-- the cursor is in the text
abbrev pub IsInside : List ℕ → Cursor → Type 0
IsInside text c = (c.place ≤ length text) × (length text ≤ 65536)

-- what comes next of tokens: a piece and what follows it, their end, or their fault
abbrev pub IsRawNext : DayNames → List ℕ → ℕ → Result (Option (Piece × ℕ)) TokenFault → Type 0
IsRawNext names text place (Ok (Some (p, to))) = raw_from names text place ≡ with_piece p (raw_from names text to)
IsRawNext names text place (Ok None) = raw_from names text place ≡ Ok nothing
IsRawNext names text place (Err bad) = raw_from names text place ≡ Err bad

-- the first token and the place after it, if there are no faults
abbrev pub IsFirstToken : DayNames → List ℕ → ℕ → Option (Token × ℕ) → Type 0
IsFirstToken names text place (Some (t, to)) = (x : Tokens) → raw_from names text place ≡ Ok x
    → (y : Tokens) × (raw_from names text to ≡ Ok y) × (x.tokens ≡ t ∷ y.tokens)
IsFirstToken names text place None = (x : Tokens) → raw_from names text place ≡ Ok x → x.tokens ≡ []

-- the number of four digits that comes first, and the one that comes after a dash, if there are no faults
abbrev pub first_four : List Token → Option ℕ
first_four [] = None
first_four (t ∷ ts) = four t.kind

abbrev pub IsFirstFour : DayNames → List ℕ → ℕ → Option ℕ → Type 0
IsFirstFour names text place w = (x : Tokens) → raw_from names text place ≡ Ok x → w ≡ first_four x.tokens

abbrev pub IsSecond : DayNames → List ℕ → ℕ → Option ℕ → Type 0
IsSecond names text place w = (x : Tokens) → raw_from names text place ≡ Ok x → w ≡ second x.tokens

-- what comes next of a cursor
abbrev pub IsNext : DayNames → List ℕ → Cursor → Result (Option (Piece × Cursor)) TokenFault → Type 0
IsNext names text c (Ok (Some (p, later))) = ahead names text c ≡ with_piece p (ahead names text later)
IsNext names text c (Ok None) = ahead names text c ≡ Ok nothing
IsNext names text c (Err bad) = ahead names text c ≡ Err bad

-- ---- how the cursor goes on

abbrev pub bytes_left : List ℕ → Cursor → ℕ
bytes_left text c = length text - c.place

abbrev pub at_end : Bool → Option ℕ → Result (Option (Piece × Cursor)) TokenFault
at_end true (Some place) = Err (wrong fault.Ambiguous place)
at_end times year = Ok None

abbrev pub end : Cursor → Result (Option (Piece × Cursor)) TokenFault
end c = at_end c.is_time c.year

abbrev pub moved : Cursor → ℕ → Cursor
moved c place = record c { place = place }

abbrev pub is_nothing : Option ℕ → Bool
is_nothing None = true
is_nothing (Some value) = false

-- the token is in no pair
abbrev pub is_single : Before → TokenKind → Bool
is_single before.Times kind = false
is_single before.Years kind = false
is_single b kind = is_nothing (four kind)

abbrev pub passed : Cursor → TokenKind → ℕ → Cursor
passed c kind place = record c { place = place; before = after_kind kind }

abbrev pub advanced : Cursor → Paired → ℕ → Cursor
advanced c p place =
    record { place = place; before = p.before; is_time = c.is_time || p.is_time; year = option_or c.year p.year }

-- the token is paired as those from a place on say, if there are no faults
abbrev pub IsPaired : DayNames → List ℕ → Before → Token → ℕ → Paired → Type 0
IsPaired names text b t to p = (x : Tokens) → raw_from names text to ≡ Ok x → p ≡ paired b t (second x.tokens)
