-- The run of the moves over tokens, and which moves are right.
use Rattle.std.specs.Prelude.{List, ◌≡◌, ◌↔◌, ℕ, Bool, true, false, [], ◌∷◌, ◌<◌, ◌&&◌, nat_le, Option, Some, None}
use Rattle.gtd_hours_tokens.specs.declared.token.TokenKind.TheVariants as token
use Rattle.gtd_hours_moves.specs.Terms.{TokenKind, Piece, Stage, Place, Move}
use Rattle.gtd_hours_moves.specs.declared.place.Place.TheVariants as places
use Rattle.gtd_hours_moves.specs.Grammar.{Demand, Follow, by_place, may_break_off, with_years}
use Rattle.gtd_hours_moves.specs.Places.{Rest}
use Rattle.gtd_hours_moves.specs.Sound.{Fits, IsPlace}
use Rattle.gtd_hours_moves.specs.Moves.{next_move, rank}

abbrev pub first : List TokenKind → Option TokenKind
first [] = None
first (t ∷ ts) = Some t

abbrev pub others : List TokenKind → List TokenKind
others [] = []
others (t ∷ ts) = ts

-- the tokens that a move leaves
abbrev pub left : Bool → List TokenKind → List TokenKind
left true ts = others ts
left false ts = ts

abbrev pub with_piece : Option Piece → List Piece → List Piece
with_piece None p = p
with_piece (Some x) p = x ∷ p

-- the next token, or the end of the text, and what follows
abbrev pub from : Option TokenKind → List TokenKind → List TokenKind
from None ts = []
from (Some t) ts = t ∷ ts

-- A text may end behind a part of a rule.
abbrev pub is_after : Place → Bool
is_after (places.After s) = true
is_after (places.AfterDate year m) = true
is_after place = false

-- It may break off, to be judged by what comes, in the last date or the last month of a range.
abbrev pub is_cut : Place → Bool
is_cut (places.DateDash x) = true
is_cut (places.DateDashYear x n) = true
is_cut (places.DateDashMonth x year m) = true
is_cut (places.MonthsYear a m b) = true
is_cut place = false

-- The step of years is one to four digits, and not 0.
abbrev pub is_step : ℕ → ℕ → Bool
is_step value digits = nat_le 1 digits && nat_le digits 4 && nat_le 1 value && nat_le value 9999

-- A token may come last that by its place fits: the day of a last date, a last month with a year, or the step of weeks that go
-- back. Or it is a step of more years than a domain holds.
abbrev pub is_judged : Place → TokenKind → Demand → Bool
is_judged (places.DateDashMonth x year m) (token.Number value digits) by_place = true
is_judged (places.MonthsYear a m b) (token.Month l) by_place = true
is_judged (places.WeekBack a b) token.Slash by_place = true
is_judged (places.YearSlash n) (token.Number value digits) with_years = is_step value digits
is_judged place t demand = false

-- Such a token is asked of.
abbrev pub may_judge : Demand → Bool
may_judge by_place = true
may_judge with_years = true
may_judge demand = false

-- The moves lead from a place over all tokens and give these pieces.
pub data Runs (demand : Demand) : Place → List Piece → List TokenKind → Type 0 where
  ends : (at : Place) → (p : List Piece) → (ts : List TokenKind) → is_after at ≡ true → p ≡ [] → ts ≡ [] → Runs demand at p ts
  cut : (at : Place) → (p : List Piece) → (ts : List TokenKind) → may_break_off demand ≡ true → is_cut at ≡ true → p ≡ []
      → ts ≡ []
      → Runs demand at p ts
  any_last : (at : Place) → (p : List Piece) → (ts : List TokenKind) → (t : TokenKind) → may_judge demand ≡ true
      → is_judged at t demand ≡ true → p ≡ [] → ts ≡ t ∷ [] → Runs demand at p ts
  step : (at : Place) → (p q : List Piece) → (ts : List TokenKind) → (move : Move) → (fits : Bool)
      → ((fits ≡ true) ↔ Fits at (first ts)) → next_move at (first ts) fits ≡ Some move → p ≡ with_piece move.piece q
      → Runs demand move.to q (left move.takes ts) → Runs demand at p ts

-- What follows behind the move also follows before it.
abbrev pub LeadsOn : Place → Option TokenKind → Move → Type 0
LeadsOn at next move =
    (demand : Demand) → (p : List Piece) → (ts : List TokenKind) → Rest demand move.to p (left move.takes (from next ts))
    → Rest demand at (with_piece move.piece p) (from next ts)

-- A move is right: it goes by the grammar, to a place with numbers in range, and no endless row of moves uses up no token.
pub record IsGood (at : Place) (next : Option TokenKind) (move : Move) : Type 0 where
  pub leads : LeadsOn at next move
  pub stands : IsPlace move.to
  pub nearer : move.takes ≡ false → rank move.to < rank at

-- A move is right behind a part of a rule.
pub record IsLater (s : Stage) (next : Option TokenKind) (move : Move) : Type 0 where
  pub leads : (demand : Demand) → (p : List Piece) → (ts : List TokenKind)
      → Rest demand move.to p (left move.takes (from next ts))
      → Follow demand s (with_piece move.piece p) (from next ts)
  pub stands : IsPlace move.to
  pub takes : move.takes ≡ true
