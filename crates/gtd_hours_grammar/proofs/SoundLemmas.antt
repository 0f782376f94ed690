-- The numbers and times of the pieces that moves complete are in range.
use Rattle.std.proofs.Common.{◌≡◌, Bool, true, false, Option, Some, refl, sym, subst, arith}
use Rattle.std.specs.Prelude.{IfSome, ◌&&◌, ◌==◌, if◌then◌else◌, nat_le}
use Rattle.gtd_hours.specs.declared.hours.Link.TheVariants as link
use Rattle.gtd_hours_tokens.specs.declared.token.TokenKind.TheVariants as token
use Rattle.gtd_hours_parts.specs.declared.digits.Digits.{Digits}
use Rattle.gtd_hours_parts.specs.declared.piece.LastDate.TheVariants as last_date
use Rattle.gtd_hours_moves.specs.Terms.{TokenKind, Piece}
use Rattle.gtd_hours_moves.specs.declared.stage.Stage.{Stage}
use Rattle.gtd_hours_moves.specs.declared.place.Place.{Place}
use Rattle.gtd_hours_moves.specs.declared.place.Move.{Move}
use Rattle.gtd_hours_parts.specs.declared.piece.Piece.TheVariants as piece
use Rattle.gtd_hours_parts.specs.declared.piece.WrittenDate.{WrittenDate}
use Rattle.gtd_hours_moves.specs.declared.stage.Stage.TheVariants as stage
use Rattle.gtd_hours_moves.specs.declared.place.Place.TheVariants as places
use Rattle.gtd_hours_moves.specs.Moves.{complete, give, later, listed, listed_number, next_goes_on, next_move, take, when}
use Rattle.gtd_hours_moves.specs.Moves.{dates_end, week_pair, written, year_or_listed}
use Rattle.gtd_hours_parts.specs.Numbers.{IsYearNumber}
use Rattle.gtd_hours_parts.specs.Pieces.{IsRange, IsWrittenDate, final_year}
use Rattle.gtd_hours_moves.specs.Sound.{Fits, IsPlace, YearOrDay, is_last_year}
use Rattle.gtd_hours_parts.specs.SoundPieces.{IsPiece}
use Rattle.gtd_hours_grammar.specs.Steps.{IsMove}
use Rattle.gtd_hours_grammar.proofs.EndingsOfParts.{first_of-is}

-- the piece of a move, if there is one, is in range
abbrev pub IsSound : Option Move → Type 0
IsSound result = IfSome result (λ move. IfSome move.piece (λ x. IsPiece x))

if_any : (b : Bool) (m : Option Move) → IsSound m → IsSound (when b m)
if_any true m h = h
if_any false m h = record {}

if_taken : (b : Bool) (to : Place) → IsSound (when b (take to))
if_taken true to = record {}
if_taken false to = record {}

if_begun : (b : Bool) (to : Place) → IsSound (when b (complete piece.Kind to))
if_begun true to = record {}
if_begun false to = record {}

if_closed : (b : Bool) (to : Place) → IsSound (when b (complete piece.Closed to))
if_closed true to = record {}
if_closed false to = record {}

if_other : (b : Bool) (to : Place) → IsSound (when b (complete (piece.Rule link.Also) to))
if_other true to = record {}
if_other false to = record {}

either_taken : (b fits : Bool) (to there : Place) → IsSound (if b then take to else when fits (complete piece.Kind there))
either_taken true fits to there = record {}
either_taken false fits to there = if_begun fits there

either_given : (b : Bool) (m : Option Move) (x : Piece) (to : Place) → IsPiece x → IsSound m
    → IsSound (if b then m else give x to)
either_given true m x to h k = k
either_given false m x to h k = h

later_sound : (s : Stage) (next : Option TokenKind) (fits : Bool) → IsSound (later s next fits)
later_sound s (Some (token.Month m)) fits = if_begun _ _
later_sound s (Some token.Week) fits = if_begun _ _
later_sound s (Some (token.Weekday k)) fits = if_begun _ _
later_sound s (Some (token.Time h m)) fits = if_taken _ _
later_sound s (Some token.Open) fits = if_taken _ _
later_sound s (Some token.Closed) fits = if_closed _ _
later_sound s next fits = record {}

number_sound : (s : Stage) (n : Digits) → IsSound (listed_number s n)
number_sound stage.Years n = record {}
number_sound stage.MonthDays n = record {}
number_sound stage.Weeks n = record {}
number_sound s n = record {}

listed_sound : (s : Stage) (next : Option TokenKind) (fits : Bool) → IsSound (listed s next fits)
listed_sound s (Some (token.Number v d)) fits = if_any fits (listed_number s (written v d)) (number_sound s (written v d))
listed_sound s (Some (token.Month m)) fits = if_taken _ _
listed_sound s (Some (token.Weekday k)) fits = if_taken _ _
listed_sound s (Some (token.Time h m)) fits = if_taken _ _
listed_sound s next fits = record {}

year_or_day_sound : (x : WrittenDate) (n : Digits) (b : Bool) → YearOrDay b x n → IsWrittenDate x
    → IsSound (if b then take (places.DateDashYear x n) else dates_end x (last_date.Day n))
year_or_day_sound x n true fits h = record {}
year_or_day_sound x n false fits h = (h, fits)

years_on : (n : Digits) → IsYearNumber n → IsRange IsYearNumber n final_year
years_on n h = (h, (refl, omega arith, omega arith), h.2)

pair_taken : (b : Bool) (to there : Place) → IsSound (if b then take to else take there)
pair_taken true to there = record {}
pair_taken false to there = record {}

pub move_sound : (at : Place) (next : Option TokenKind) (fits : Bool) → IsPlace at → (fits ≡ true → Fits at next)
    → IsSound (next_move at next fits)
move_sound places.Front (Some (token.Number v d)) fits h f =
    either_taken (v == 24 && d == 2) fits places.TwentyFour (places.Year (written v d))
move_sound places.Front next fits h f = later_sound stage.Front next fits
move_sound (places.After s) (Some token.Semicolon) fits h f = record {}
move_sound (places.After s) (Some token.Comma) fits h f = record {}
move_sound (places.After s) (Some token.Colon) fits h f = if_taken _ _
move_sound (places.After s) (Some (token.Number v d)) fits h f = if_begun _ _
move_sound (places.After s) next fits h f = later_sound s next fits
move_sound (places.Comma s) next fits h f =
    either_given (next_goes_on s next) (listed s next fits) (piece.Rule link.Also) places.Front (record {})
    (listed_sound s next fits)
move_sound (places.Year n) (Some (token.Month m)) fits h f = if_taken _ _
move_sound (places.Year n) (Some token.Dash) fits h f = record {}
move_sound (places.Year n) (Some token.Slash) fits h f = record {}
move_sound (places.Year n) (Some token.Plus) fits h f = (years_on n h, record {})
move_sound (places.Year n) next fits h f = h
move_sound (places.YearMonth n m) (Some (token.Number v d)) fits h f = if_taken _ _
move_sound (places.YearMonth n m) (Some token.Dash) fits h f = record {}
move_sound (places.YearMonth n m) next fits h f = h.one
move_sound (places.YearMonthDash n m) (Some (token.Number v d)) fits h f = if_taken _ _
move_sound (places.YearMonthDash n m) (Some (token.Month l)) fits h f = h.one
move_sound (places.MonthDashAfterYear m) (Some (token.Month l)) fits h f = record {}
move_sound (places.DateYearMonthDash n m) (Some (token.Number v d)) fits h f = if_taken _ _
move_sound (places.MonthsYear a m b) (Some (token.Month l)) true h f = (first_of-is (Some a) m h.one.0 h.other, f refl)
move_sound (places.MonthsYear a m b) (Some (token.Month l)) false h f = record {}
move_sound (places.ListedYear n) (Some token.Dash) fits h f = record {}
move_sound (places.ListedYear n) (Some token.Slash) fits h f = record {}
move_sound (places.ListedYear n) (Some token.Plus) fits h f = (years_on n h, record {})
move_sound (places.ListedYear n) next fits h f = h
move_sound (places.YearSlash n) (Some (token.Number v d)) true h f = (years_on n h, (f refl).0)
move_sound (places.YearSlash n) (Some (token.Number v d)) false h f = record {}
move_sound (places.YearRange a b) (Some token.Slash) fits h f = record {}
move_sound (places.YearRange a b) next fits h f = (h, record {})
move_sound (places.YearStep a b) (Some (token.Number v d)) true h f = (h, f refl)
move_sound (places.YearStep a b) (Some (token.Number v d)) false h f = record {}
move_sound (places.Month m) (Some (token.Number v d)) fits h f = if_taken _ _
move_sound (places.Month m) (Some token.Dash) fits h f = record {}
move_sound (places.Month m) next fits h f = (h, record {})
move_sound (places.MonthDash m) (Some (token.Month l)) true h f = (h, f refl)
move_sound (places.MonthDash m) (Some (token.Month l)) false h f = record {}
move_sound (places.Date x) (Some token.Dash) fits h f = record {}
move_sound (places.Date x) next fits h f = h
move_sound (places.ListedDay x) (Some token.Dash) fits h f = record {}
move_sound (places.ListedDay x) (Some token.Slash) fits h f =
    if_other (x.day.value == 24 && x.day.count == 2) places.TwentyFourSlash
move_sound (places.ListedDay x) next fits h f = h
move_sound (places.AfterDate y m) (Some token.Comma) fits h f = record {}
move_sound (places.AfterDate y m) (Some token.Semicolon) fits h f = record {}
move_sound (places.AfterDate y m) (Some token.Colon) fits h f = record {}
move_sound (places.AfterDate y m) (Some (token.Number v d)) fits h f =
    if_begun (fits && false) (places.DateYear (written v d))
move_sound (places.AfterDate y m) next fits h f = later_sound stage.MonthDays next fits
move_sound (places.CommaDate y m) (Some (token.Number v d)) fits h f =
    if_any fits (year_or_listed y m (written v d)) (pair_taken (d == 4) _ _)
move_sound (places.CommaDate y m) next fits h f =
    either_given (next_goes_on stage.MonthDays next) (listed stage.MonthDays next fits) (piece.Rule link.Also) places.Front
    (record {}) (listed_sound stage.MonthDays next fits)
move_sound (places.DateDash x) (Some (token.Number v d)) true h f =
    year_or_day_sound x (written v d) (is_last_year x (written v d)) (f refl) h
move_sound (places.DateDash x) (Some (token.Number v d)) false h f = record {}
move_sound (places.DateDashMonth x y m) (Some (token.Number v d)) true h f = (h.one, f refl)
move_sound (places.DateDashMonth x y m) (Some (token.Number v d)) false h f = record {}
move_sound (places.Week n) (Some token.Dash) fits h f = record {}
move_sound (places.Week n) next fits h f = h
move_sound (places.WeekRange a b) (Some token.Slash) fits h f = record {}
move_sound (places.WeekRange a b) next fits h f = (h, record {})
move_sound (places.WeekStep a b) (Some (token.Number v d)) true h f = (h, f refl)
move_sound (places.WeekStep a b) (Some (token.Number v d)) false h f = record {}
move_sound (places.WeekBack a b) (Some token.Slash) fits h f = record {}
move_sound (places.WeekBack a b) next fits h f =
    ((h.0, (omega arith, omega arith, omega arith, omega arith), omega (arith, h.0.3)), record {})
move_sound (places.WeekAgain a b) next fits h f =
    (((omega arith, omega arith, omega arith, omega arith), h.1, omega (arith, h.1.2)), record {})
move_sound (places.Weekday k) (Some token.Dash) fits h f = record {}
move_sound (places.Weekday k) (Some token.OpenBracket) fits h f = record {}
move_sound (places.Weekday k) next fits h f = (h, record {})
move_sound (places.WeekdayDash k) (Some (token.Weekday l)) true h f = (h, f refl)
move_sound (places.WeekdayDash k) (Some (token.Weekday l)) false h f = record {}
move_sound (places.BracketDash k r) (Some (token.Number v d)) true h f = (h, f refl)
move_sound (places.BracketDash k r) (Some (token.Number v d)) false h f = record {}
move_sound (places.Nth k n r) (Some token.Dash) fits h f = record {}
move_sound (places.Nth k n r) next fits h f = (h.one, h.other)
move_sound (places.NthDash k n r) (Some (token.Number v d)) true h f = (h.one, f refl)
move_sound (places.NthDash k n r) (Some (token.Number v d)) false h f = record {}
move_sound (places.TimeDash t) (Some (token.Time a b)) true h f = f refl
move_sound (places.TimeDash t) (Some (token.Time a b)) false h f = record {}
move_sound places.TwentyFour (Some token.Slash) fits h f = record {}
move_sound places.TwentyFourSlash (Some (token.Number v d)) fits h f = if_taken _ _
move_sound (places.MonthAfterYear m) next fits h f = record {}
move_sound (places.YearDash n) (Some (token.Number v d)) fits h f = if_taken _ _
move_sound (places.DateYear n) (Some (token.Month m)) fits h f = if_taken _ _
move_sound (places.DateYearMonth n m) (Some (token.Number v d)) fits h f = if_taken _ _
move_sound (places.DateDash x) (Some (token.Month m)) fits h f = if_taken _ _
move_sound (places.DateDashYear x n) (Some (token.Month m)) fits h f = if_taken _ _
move_sound places.WeekWord (Some (token.Number v d)) fits h f = if_taken _ _
move_sound (places.WeekDash n) (Some (token.Number v d)) fits h f =
    if_any fits (week_pair n (written v d)) (pair_taken (nat_le n.value v) _ _)
move_sound (places.Bracket k r) (Some (token.Number v d)) fits h f = if_taken _ _
move_sound (places.Bracket k r) (Some token.Dash) fits h f = record {}
move_sound (places.BracketEnd k r) (Some token.Comma) fits h f = record {}
move_sound (places.BracketEnd k r) (Some token.CloseBracket) fits h f = record {}
move_sound (places.PlacesEnd r) (Some token.Plus) fits h f = if_taken (nat_le 1 r) (places.OffsetSign false r)
move_sound (places.PlacesEnd r) (Some token.Dash) fits h f = if_taken (nat_le 2 r) (places.OffsetSign true r)
move_sound (places.PlacesEnd r) next fits h f = record {}
move_sound (places.OffsetSign before r) (Some (token.Number v d)) fits h f = if_taken fits _
move_sound (places.OffsetNumber o) (Some token.Day) fits h f = h
move_sound (places.Time t) (Some token.Dash) fits h f = record {}
move_sound at next fits h f = record {}

pub sound_piece : (at : Place) (next : Option TokenKind) (move : Move) (x : Piece) → IsPlace at → IsMove at next (Some move)
    → move.piece ≡ Some x → IsPiece x
sound_piece at next move x h goes e =
    let sound = move_sound at next goes.fits h goes.bit.0 in
    let here = subst (λ (r : Option Move). IsSound r) (sym goes.computed) sound in
    subst (λ (o : Option Piece). IfSome o (λ y. IsPiece y)) e here

pub sound_all : (at : Place) (next : Option TokenKind) (move : Move) → IsPlace at → IsMove at next (Some move)
    → IfSome move.piece (λ x. IsPiece x)
sound_all at next move h goes =
    subst (λ (r : Option Move). IsSound r) (sym goes.computed) (move_sound at next goes.fits h goes.bit.0)
