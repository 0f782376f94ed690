-- What follows behind a place of the reading: the grammar from there on. The tokens of the part that is not finished are put
-- before those that follow.
use Rattle.std.specs.Prelude.{List, ◌≡◌, ℕ, ◌∷◌, Option, Some, None}
use Rattle.gtd_hours_parts.specs.declared.digits.Digits.{Digits}
use Rattle.gtd_hours_parts.specs.declared.piece.Offset.{Offset}
use Rattle.gtd_hours_parts.specs.declared.piece.WrittenDate.{WrittenDate}
use Rattle.gtd_hours_tokens.specs.declared.token.TokenKind.TheVariants as token
use Rattle.gtd_hours_moves.specs.Terms.{TokenKind, Piece, Stage, Place}
use Rattle.gtd_hours_parts.specs.declared.piece.Piece.TheVariants as piece
use Rattle.gtd_hours_moves.specs.declared.stage.Stage.TheVariants as stage
use Rattle.gtd_hours_moves.specs.declared.place.Place.TheVariants as places
use Rattle.gtd_hours_parts.specs.Pieces.{IsDay, final_week}
use Rattle.gtd_hours_moves.specs.Grammar.{Demand, Follow, IsDates, IsOne, IsPlaces, Listed, More, dated, months_to, number}
use Rattle.gtd_hours_moves.specs.Grammar.{IsOffset, offset_before, sign, time}
use Rattle.gtd_hours_moves.specs.Sound.{ReachesTo}

-- the rest behind one of a list
pub record Behind (demand : Demand) (s : Stage) (p : List Piece) (ts : List TokenKind) : Type 0 where
  pub later : List Piece
  pub rest : List TokenKind
  pub more : More (IsOne demand s) later rest p ts
  pub follow : Follow demand s later rest

-- the rest from one of a list on
pub record From (demand : Demand) (s : Stage) (p : List Piece) (ts : List TokenKind) : Type 0 where
  pub later : List Piece
  pub rest : List TokenKind
  pub one : IsOne demand s p ts later rest
  pub behind : Behind demand s later rest

-- the rest from a place in brackets on, where the places before it have this reach
pub record InBrackets (demand : Demand) (weekday reach : ℕ) (p : List Piece) (ts : List TokenKind) : Type 0 where
  pub later : List Piece
  pub rest : List TokenKind
  pub offset : Option Offset
  pub is : IsOffset offset
  pub reaches : ReachesTo reach offset
  pub listed : Listed (IsPlaces weekday offset) p ts (piece.PlacesEnd offset ∷ later)
      (token.CloseBracket ∷ offset_before offset rest)
  pub behind : Behind demand stage.Weekdays later rest

-- the rest behind a place in brackets
pub record BehindPlace (demand : Demand) (weekday reach : ℕ) (p : List Piece) (ts : List TokenKind) : Type 0 where
  pub later : List Piece
  pub rest : List TokenKind
  pub offset : Option Offset
  pub is : IsOffset offset
  pub reaches : ReachesTo reach offset
  pub more : More (IsPlaces weekday offset) (piece.PlacesEnd offset ∷ later) (token.CloseBracket ∷ offset_before offset rest) p ts
  pub behind : Behind demand stage.Weekdays later rest

-- the rest behind brackets
pub record BehindBrackets (demand : Demand) (reach : ℕ) (p : List Piece) (ts : List TokenKind) : Type 0 where
  pub later : List Piece
  pub rest : List TokenKind
  pub offset : Option Offset
  pub is : IsOffset offset
  pub reaches : ReachesTo reach offset
  pub pieces : p ≡ piece.PlacesEnd offset ∷ later
  pub tokens : ts ≡ offset_before offset rest
  pub behind : Behind demand stage.Weekdays later rest

-- the rest behind the sign and the number of an offset
pub record BehindNumber (demand : Demand) (o : Offset) (p : List Piece) (ts : List TokenKind) : Type 0 where
  pub later : List Piece
  pub rest : List TokenKind
  pub pieces : p ≡ piece.PlacesEnd (Some o) ∷ later
  pub tokens : ts ≡ token.Day ∷ rest
  pub behind : Behind demand stage.Weekdays later rest

-- the rest behind a date
pub record FromDate (demand : Demand) (x : WrittenDate) (p : List Piece) (ts : List TokenKind) : Type 0 where
  pub later : List Piece
  pub rest : List TokenKind
  pub dates : IsDates demand later rest x p ts
  pub behind : Behind demand stage.MonthDays later rest

-- the rest behind a date or a range of dates that ends in that month: days of it behind commas, or what stands behind a list
pub data BehindDate (demand : Demand) (year : Option Digits) (month : ℕ) (p : List Piece) (ts : List TokenKind) : Type 0 where
  day : (n : Digits) → (us : List TokenKind) → ts ≡ token.Comma ∷ number n ∷ us → IsDay year month n
      → FromDate demand (record { year = year; month = month; day = n }) p us → BehindDate demand year month p ts
  none : Behind demand stage.MonthDays p ts → BehindDate demand year month p ts

abbrev pub Rest : Demand → Place → List Piece → List TokenKind → Type 0
Rest d places.Front p ts = Follow d stage.Front p ts
Rest d places.TwentyFour p ts = Follow d stage.Front p (token.Number 24 2 ∷ ts)
Rest d places.TwentyFourSlash p ts = Follow d stage.Front p (token.Number 24 2 ∷ token.Slash ∷ ts)
Rest d (places.Year n) p ts = Follow d stage.Front (piece.Kind ∷ p) (number n ∷ ts)
Rest d (places.YearMonth n m) p ts = Follow d stage.Front (piece.Kind ∷ p) (number n ∷ token.Month m ∷ ts)
Rest d (places.MonthAfterYear m) p ts = Follow d stage.Years p (token.Month m ∷ ts)
Rest d (places.YearMonthDash n m) p ts =
    Follow d stage.Front (piece.Kind ∷ p) (number n ∷ token.Month m ∷ token.Dash ∷ ts)
Rest d (places.MonthDashAfterYear m) p ts = Follow d stage.Years p (token.Month m ∷ token.Dash ∷ ts)
Rest d (places.ListedYear n) p ts = From d stage.Years p (number n ∷ ts)
Rest d (places.YearDash n) p ts = From d stage.Years p (number n ∷ token.Dash ∷ ts)
Rest d (places.YearRange a b) p ts = From d stage.Years p (number a ∷ token.Dash ∷ number b ∷ ts)
Rest d (places.YearStep a b) p ts = From d stage.Years p (number a ∷ token.Dash ∷ number b ∷ token.Slash ∷ ts)
Rest d (places.YearSlash n) p ts = From d stage.Years p (number n ∷ token.Slash ∷ ts)
Rest d (places.DateYear n) p ts = From d stage.MonthDays p (number n ∷ ts)
Rest d (places.DateYearMonth n m) p ts = From d stage.MonthDays p (number n ∷ token.Month m ∷ ts)
Rest d (places.DateYearMonthDash n m) p ts = From d stage.MonthDays p (number n ∷ token.Month m ∷ token.Dash ∷ ts)
Rest d (places.MonthsYear a m b) p ts = From d stage.MonthDays p (months_to a m b ts)
Rest d (places.Month m) p ts = From d stage.MonthDays p (token.Month m ∷ ts)
Rest d (places.MonthDash m) p ts = From d stage.MonthDays p (token.Month m ∷ token.Dash ∷ ts)
Rest d (places.Date x) p ts = FromDate d x p ts
Rest d (places.ListedDay x) p ts = BehindDate d x.year x.month p (token.Comma ∷ number x.day ∷ ts)
Rest d (places.DateDash x) p ts = FromDate d x p (token.Dash ∷ ts)
Rest d (places.DateDashYear x n) p ts = FromDate d x p (token.Dash ∷ number n ∷ ts)
Rest d (places.DateDashMonth x year m) p ts = FromDate d x p (token.Dash ∷ dated year m ts)
Rest d (places.AfterDate year m) p ts = BehindDate d year m p ts
Rest d (places.CommaDate year m) p ts = BehindDate d year m p (token.Comma ∷ ts)
Rest d places.WeekWord p ts = From d stage.Weeks p ts
Rest d (places.Week n) p ts = From d stage.Weeks p (number n ∷ ts)
Rest d (places.WeekDash n) p ts = From d stage.Weeks p (number n ∷ token.Dash ∷ ts)
Rest d (places.WeekRange a b) p ts = From d stage.Weeks p (number a ∷ token.Dash ∷ number b ∷ ts)
Rest d (places.WeekStep a b) p ts = From d stage.Weeks p (number a ∷ token.Dash ∷ number b ∷ token.Slash ∷ ts)
Rest d (places.WeekBack a b) p ts = From d stage.Weeks p (number a ∷ token.Dash ∷ number b ∷ ts)
Rest d (places.WeekAgain a b) p ts =
    From d stage.Weeks (piece.Weeks a (Some final_week) None ∷ p) (number a ∷ token.Dash ∷ number b ∷ ts)
Rest d (places.Weekday k) p ts = From d stage.Weekdays p (token.Weekday k ∷ ts)
Rest d (places.WeekdayDash k) p ts = From d stage.Weekdays p (token.Weekday k ∷ token.Dash ∷ ts)
Rest d (places.Bracket k r) p ts = InBrackets d k r p ts
Rest d (places.BracketDash k r) p ts = InBrackets d k r p (token.Dash ∷ ts)
Rest d (places.Nth k n r) p ts = InBrackets d k r p (number n ∷ ts)
Rest d (places.NthDash k n r) p ts = InBrackets d k r p (number n ∷ token.Dash ∷ ts)
Rest d (places.BracketEnd k r) p ts = BehindPlace d k r p ts
Rest d (places.PlacesEnd r) p ts = BehindBrackets d r p ts
Rest d (places.OffsetSign before r) p ts = BehindBrackets d r p (sign before ∷ ts)
Rest d (places.OffsetNumber o) p ts = BehindNumber d o p ts
Rest d (places.Time t) p ts = From d stage.Times p (time t ∷ ts)
Rest d (places.TimeDash t) p ts = From d stage.Times p (time t ∷ token.Dash ∷ ts)
Rest d (places.After s) p ts = Behind d s p ts
Rest d (places.Comma s) p ts = Behind d s p (token.Comma ∷ ts)
