-- Each move of the table is right.
use Rattle.std.proofs.Common.{◌≡◌, ℕ, Bool, true, false, Option, Some, None, List, ◌∷◌, refl, subst, sym}
use Rattle.std.specs.Prelude.{IfSome, ◌&&◌, ◌==◌, if◌then◌else◌, nat_le}
use Rattle.std.proofs.lemmas.Bool.{and_parts, eqb-true, leb-true}
use Rattle.gtd_hours.specs.declared.hours.Link.TheVariants as link
use Rattle.gtd_hours_tokens.specs.declared.token.TokenKind.TheVariants as token
use Rattle.gtd_hours_parts.specs.Numbers.{IsYearNumber}
use Rattle.gtd_hours_moves.specs.Terms.{TokenKind, Piece, Stage, Place, Move}
use Rattle.gtd_hours_parts.specs.declared.piece.Piece.TheVariants as piece
use Rattle.gtd_hours_moves.specs.declared.stage.Stage.TheVariants as stage
use Rattle.gtd_hours_moves.specs.declared.place.Place.TheVariants as places
use Rattle.gtd_hours_moves.specs.Grammar.{Demand, Follow, precedes}
use Rattle.gtd_hours_parts.specs.declared.digits.Digits.{Digits}
use Rattle.gtd_hours_moves.specs.Places.{Rest}
use Rattle.gtd_hours_moves.specs.Sound.{Fits, IsPlace}
use Rattle.gtd_hours_moves.specs.Moves.{after, comma, clock, complete, give, later, listed, next_goes_on, next_move, take}
use Rattle.gtd_hours_moves.specs.Moves.{when, written}
use Rattle.gtd_hours_moves.specs.Runs.{IsGood, IsLater}
use Rattle.gtd_hours_moves.proofs.GoodLemmas.{takes_to}
use Rattle.gtd_hours_moves.proofs.GoodItems.{bracket_close_good, bracket_comma_good, bracket_dash_good, date_dash_good}
use Rattle.gtd_hours_moves.proofs.GoodItems.{date_dash_month_good, date_good, listed_year_good, month_after_year_good}
use Rattle.gtd_hours_moves.proofs.GoodItems.{month_dash_good, month_good, nth_dash_good, nth_good, time_dash_good}
use Rattle.gtd_hours_moves.proofs.GoodItems.{week_good, week_range_good, week_step_good, weekday_bracket_good}
use Rattle.gtd_hours_moves.proofs.GoodItems.{weekday_dash_good, weekday_good, year_dash_good, year_date_good, year_good}
use Rattle.gtd_hours_moves.proofs.GoodItems.{year_month_good, year_range_good, year_step_good, listed_plus_good}
use Rattle.gtd_hours_moves.proofs.GoodItems.{slash_step_good, week_again_good, week_back_good, week_pair_good}
use Rattle.gtd_hours_moves.proofs.GoodItems.{after_date_good, comma_date_good, listed_dash_good, listed_day_good}
use Rattle.gtd_hours_moves.proofs.GoodItems.{month_date_good, dash_good, offset_number_good, offset_sign_good}
use Rattle.gtd_hours_moves.proofs.GoodItems.{places_end_good, plus_good}
use Rattle.gtd_hours_moves.proofs.GoodItems.{year_month_date_good}
use Rattle.gtd_hours_moves.proofs.GoodItems.{comma_number_good, listed_slash_good, year_plus_good}
use Rattle.gtd_hours_moves.proofs.GoodItems.{listed_month_to_year_good, month_to_year_good, months_behind_good}
use Rattle.gtd_hours_moves.proofs.GoodItems.{months_end_good, year_and_months_good, year_slash_good}
use Rattle.gtd_hours_moves.proofs.GoodRules.{after_colon_good, after_later_good, after_semicolon_good, after_year_good}
use Rattle.gtd_hours_moves.proofs.GoodRules.{also_good, always_good, later_closed, later_month, later_open, later_time}
use Rattle.gtd_hours_moves.proofs.GoodRules.{later_week, later_weekday, listed_month_good, listed_number_good}
use Rattle.gtd_hours_moves.proofs.GoodRules.{listed_time_good, listed_weekday_good}

-- the move, if there is one, is right
abbrev pub IsRight : Place → Option TokenKind → Option Move → Type 0
IsRight at next m = IfSome m (λ move. IsGood at next move)

-- a token is used up, and the grammar goes on with the same tokens
on : (at to : Place) (t : TokenKind)
    → ((d : Demand) (p : List Piece) (ts : List TokenKind) → Rest d to p ts → Rest d at p (t ∷ ts))
    → IsPlace to → IsGood at (Some t) (takes_to to)
on at to t goes sound = record { leads = goes; stands = sound; nearer = λ h. absurd cc }

-- ---- later parts of a rule

abbrev IsRightLater : Stage → Option TokenKind → Option Move → Type 0
IsRightLater s next m = IfSome m (λ move. IsLater s next move)

later_if : (b : Bool) (s : Stage) (next : Option TokenKind) (m : Option Move) → (b ≡ true → IsRightLater s next m)
    → IsRightLater s next (when b m)
later_if true s next m right = right refl
later_if false s next m right = record {}

later_right : (s : Stage) (next : Option TokenKind) (fits : Bool) → (fits ≡ true → Fits (places.After s) next)
    → IsRightLater s next (later s next fits)
later_right s (Some (token.Month m)) true f =
    later_if (precedes s stage.MonthDays) s (Some (token.Month m)) (complete piece.Kind (places.Month m))
    (λ e. later_month s m (Some (token.Month m)) true refl refl f e)
later_right s (Some (token.Weekday k)) true f =
    later_if (precedes s stage.Weekdays) s (Some (token.Weekday k)) (complete piece.Kind (places.Weekday k))
    (λ e. later_weekday s k (Some (token.Weekday k)) true refl refl f e)
later_right s (Some (token.Time h m)) true f =
    later_if (precedes s stage.Times) s (Some (token.Time h m)) (take (places.Time (clock h m)))
    (λ e. later_time s h m (Some (token.Time h m)) true refl refl f e)
later_right s (Some token.Week) fits f =
    later_if (precedes s stage.Weeks) s (Some token.Week) (complete piece.Kind places.WeekWord)
    (λ e. later_week s (Some token.Week) refl e)
later_right s (Some token.Open) fits f =
    later_if (precedes s stage.Modifier) s (Some token.Open) (take (places.After stage.Modifier))
    (λ e. later_open s (Some token.Open) refl e)
later_right s (Some token.Closed) fits f =
    later_if (precedes s stage.Modifier) s (Some token.Closed) (complete piece.Closed (places.After stage.Modifier))
    (λ e. later_closed s (Some token.Closed) refl e)
later_right s next fits f = record {}

-- ---- the beginning of a rule

front_fits : (next : Option TokenKind) → Fits places.Front next → Fits (places.After stage.Front) next
front_fits (Some (token.Number v d)) f = f
front_fits (Some (token.Time h m)) f = f
front_fits (Some (token.Month m)) f = f
front_fits (Some (token.Weekday k)) f = f
front_fits next f = absurd f

front_later : (next : Option TokenKind) (m : Option Move) → IsRightLater stage.Front next m → IsRight places.Front next m
front_later next None l = l
front_later next (Some move) l = record {
  leads = l.leads;
  stands = l.stands;
  nearer = λ h. absurd (let t = l.takes in cc);
}

front_number : (v d : ℕ) (b fits : Bool) → (v == 24 && d == 2) ≡ b → (fits ≡ true → IsYearNumber (written v d))
    → IsRight places.Front (Some (token.Number v d))
    (if b then take places.TwentyFour else when fits (complete piece.Kind (places.Year (written v d))))
front_number v d true fits e f =
    let both = and_parts (v == 24) (d == 2) e in
    on places.Front places.TwentyFour (token.Number v d)
    (λ demand p ts rest.
    subst (λ (n : ℕ). Follow demand stage.Front p (token.Number n d ∷ ts)) (sym (eqb-true v 24 both.0))
    (subst (λ (n : ℕ). Follow demand stage.Front p (token.Number 24 n ∷ ts)) (sym (eqb-true d 2 both.1)) rest))
    (record {})
front_number v d false true e f = record { leads = λ demand p ts rest. rest; stands = f refl; nearer = λ h. absurd cc }
front_number v d false false e f = record {}

-- ---- behind a part of a rule

if_right : (b : Bool) (at : Place) (next : Option TokenKind) (m : Option Move) → (b ≡ true → IsRight at next m)
    → IsRight at next (when b m)
if_right true at next m right = right refl
if_right false at next m right = record {}

listed_right : (s : Stage) (next : Option TokenKind) (fits : Bool) → (fits ≡ true → Fits (places.Comma s) next)
    → next_goes_on s next ≡ true → IsRight (places.Comma s) next (listed s next fits)
listed_right s (Some (token.Number v d)) true f e = listed_number_good s v d (Some (token.Number v d)) true refl refl f
listed_right s (Some (token.Month m)) true f e = listed_month_good s m (Some (token.Month m)) true refl refl f e
listed_right s (Some (token.Weekday k)) true f e = listed_weekday_good s k (Some (token.Weekday k)) true refl refl f e
listed_right s (Some (token.Time h m)) true f e = listed_time_good s h m (Some (token.Time h m)) true refl refl f e
listed_right s next fits f e = record {}

comma_right : (s : Stage) (next : Option TokenKind) (b fits : Bool) → next_goes_on s next ≡ b
    → (fits ≡ true → Fits (places.Comma s) next) → IsPlace (places.Comma s)
    → IsRight (places.Comma s) next (if b then listed s next fits else give (piece.Rule link.Also) places.Front)
comma_right s next true fits e f h = listed_right s next fits f e
comma_right s next false fits e f h = also_good s next h e

after_right : (s : Stage) (next : Option TokenKind) (fits : Bool) → IsPlace (places.After s)
    → (fits ≡ true → Fits (places.After s) next) → IsRight (places.After s) next (after s next fits)
after_right s (Some token.Semicolon) fits h f = after_semicolon_good s (Some token.Semicolon) refl h
after_right s (Some token.Comma) fits h f =
    on (places.After s) (places.Comma s) token.Comma (λ d p ts rest. rest) h
after_right s (Some token.Colon) fits h f =
    if_right (precedes s stage.Colon) (places.After s) (Some token.Colon) (take (places.After stage.Colon))
    (λ e. after_colon_good s (Some token.Colon) refl h e)
after_right s (Some (token.Number v d)) true h f =
    if_right (precedes s stage.MonthDays) (places.After s) (Some (token.Number v d))
    (complete piece.Kind (places.DateYear (written v d)))
    (λ e. after_year_good s v d (Some (token.Number v d)) true refl refl f e)
after_right s (Some (token.Number v d)) false h f = record {}
after_right s next fits h f = after_later_good s next (later s next fits) (later_right s next fits f)

pub after_date_fits : (y : Option Digits) (m : ℕ) (next : Option TokenKind) → Fits (places.AfterDate y m) next
    → Fits (places.After stage.MonthDays) next
after_date_fits y m (Some (token.Number v d)) f = f
after_date_fits y m (Some (token.Time h k)) f = f
after_date_fits y m (Some (token.Month k)) f = f
after_date_fits y m (Some (token.Weekday k)) f = f
after_date_fits y m next f = absurd f

abbrev pub is_number : Option TokenKind → Bool
is_number (Some (token.Number v d)) = true
is_number next = false

pub comma_date_fits : (y : Option Digits) (m : ℕ) (next : Option TokenKind) → Fits (places.CommaDate y m) next
    → is_number next ≡ false → Fits (places.Comma stage.MonthDays) next
comma_date_fits y m (Some (token.Number v d)) f never = absurd cc
comma_date_fits y m (Some (token.Time h k)) f never = f
comma_date_fits y m (Some (token.Month k)) f never = f
comma_date_fits y m (Some (token.Weekday k)) f never = f
comma_date_fits y m next f never = absurd f

-- ---- the table

pub move_right : (at : Place) (next : Option TokenKind) (fits : Bool) → IsPlace at → (fits ≡ true → Fits at next)
    → IsRight at next (next_move at next fits)
move_right places.Front (Some (token.Number v d)) fits h f = front_number v d (v == 24 && d == 2) fits refl f
move_right places.Front next fits h f =
    front_later next (later stage.Front next fits) (later_right stage.Front next fits (λ e. front_fits next (f e)))
move_right places.TwentyFour (Some token.Slash) fits h f =
    on places.TwentyFour places.TwentyFourSlash token.Slash (λ d p ts rest. rest) (record {})
move_right places.TwentyFourSlash (Some (token.Number v d)) true h f = always_good v d (Some (token.Number v d)) true refl refl f
move_right (places.Year n) (Some (token.Month m)) true h f =
    on (places.Year n) (places.YearMonth n m) (token.Month m) (λ d p ts rest. rest) (record { one = h; other = f refl })
move_right (places.Year n) (Some (token.Month m)) false h f = record {}
move_right (places.Year n) (Some token.Dash) fits h f = year_dash_good n (Some token.Dash) refl h
move_right (places.Year n) (Some token.Slash) fits h f = year_slash_good n (Some token.Slash) refl h
move_right (places.Year n) (Some token.Plus) fits h f = year_plus_good n (Some token.Plus) refl h
move_right (places.Year n) next fits h f = year_good n next (λ ts. refl) h
move_right (places.YearMonth n m) (Some (token.Number v d)) true h f =
    year_date_good n m v d (Some (token.Number v d)) true refl refl f h
move_right (places.YearMonth n m) (Some (token.Number v d)) false h f = record {}
move_right (places.YearMonth n m) (Some token.Dash) fits h f =
    on (places.YearMonth n m) (places.YearMonthDash n m) token.Dash (λ d p ts rest. rest) h
move_right (places.YearMonth n m) next fits h f = year_month_good n m next (λ ts. refl) h
move_right (places.YearMonthDash n m) (Some (token.Number v d)) true h f =
    month_to_year_good n m v d (Some (token.Number v d)) true refl refl f h
move_right (places.YearMonthDash n m) (Some (token.Month l)) fits h f = year_and_months_good n m l (Some (token.Month l)) refl h
move_right (places.MonthDashAfterYear m) (Some (token.Month l)) fits h f = months_behind_good m l (Some (token.Month l)) refl h
move_right (places.MonthAfterYear m) next fits h f = month_after_year_good m next h
move_right (places.ListedYear n) (Some token.Dash) fits h f =
    on (places.ListedYear n) (places.YearDash n) token.Dash (λ d p ts rest. rest) h
move_right (places.ListedYear n) (Some token.Slash) fits h f =
    on (places.ListedYear n) (places.YearSlash n) token.Slash (λ d p ts rest. rest) h
move_right (places.ListedYear n) (Some token.Plus) fits h f = listed_plus_good n (Some token.Plus) refl h
move_right (places.ListedYear n) next fits h f = listed_year_good n next h
move_right (places.YearSlash n) (Some (token.Number v d)) true h f =
    slash_step_good n v d (Some (token.Number v d)) true refl refl f h
move_right (places.YearDash n) (Some (token.Number v d)) true h f =
    on (places.YearDash n) (places.YearRange n (written v d)) (token.Number v d) (λ e p ts rest. rest) (f refl)
move_right (places.YearRange a b) (Some token.Slash) fits h f =
    on (places.YearRange a b) (places.YearStep a b) token.Slash (λ d p ts rest. rest) h
move_right (places.YearRange a b) next fits h f = year_range_good a b next h
move_right (places.YearStep a b) (Some (token.Number v d)) true h f =
    year_step_good a b v d (Some (token.Number v d)) true refl refl f h
move_right (places.DateYear n) (Some (token.Month m)) true h f =
    on (places.DateYear n) (places.DateYearMonth n m) (token.Month m) (λ d p ts rest. rest) (record { one = h; other = f refl })
move_right (places.DateYearMonth n m) (Some (token.Number v d)) true h f =
    year_month_date_good n m v d (Some (token.Number v d)) true refl refl f h
move_right (places.DateYearMonth n m) (Some token.Dash) fits h f =
    on (places.DateYearMonth n m) (places.DateYearMonthDash n m) token.Dash (λ d p ts rest. rest) h
move_right (places.DateYearMonthDash n m) (Some (token.Number v d)) true h f =
    listed_month_to_year_good n m v d (Some (token.Number v d)) true refl refl f h
move_right (places.MonthsYear a m b) (Some (token.Month l)) true h f =
    months_end_good a b m l (Some (token.Month l)) true refl refl f h
move_right (places.Month m) (Some (token.Number v d)) true h f =
    month_date_good m v d (Some (token.Number v d)) true refl refl f
move_right (places.Month m) (Some (token.Number v d)) false h f = record {}
move_right (places.Month m) (Some token.Dash) fits h f =
    on (places.Month m) (places.MonthDash m) token.Dash (λ d p ts rest. rest) h
move_right (places.Month m) next fits h f = month_good m next h
move_right (places.MonthDash m) (Some (token.Month l)) true h f =
    month_dash_good m l (Some (token.Month l)) true refl refl f h
move_right (places.Date x) (Some token.Dash) fits h f =
    on (places.Date x) (places.DateDash x) token.Dash (λ d p ts rest. rest) h
move_right (places.Date x) next fits h f = date_good x next h
move_right (places.DateDash x) (Some (token.Number v d)) true h f =
    date_dash_good x v d (Some (token.Number v d)) true refl refl f h
move_right (places.DateDash x) (Some (token.Month m)) true h f =
    on (places.DateDash x) (places.DateDashMonth x None m) (token.Month m) (λ d p ts rest. rest)
    (record { one = h; other = record { one = record { one = λ e. absurd cc; other = record {} }; other = f refl } })
move_right (places.DateDashYear x n) (Some (token.Month m)) true h f =
    on (places.DateDashYear x n) (places.DateDashMonth x (Some n) m) (token.Month m) (λ d p ts rest. rest)
    (record {
      one = h.one;
      other = record { one = record { one = λ e. h.other.one; other = h.other.other }; other = f refl };
    })
move_right (places.DateDashMonth x y m) (Some (token.Number v d)) true h f =
    date_dash_month_good x y m v d (Some (token.Number v d)) true refl refl f h
move_right places.WeekWord (Some (token.Number v d)) true h f =
    on places.WeekWord (places.Week (written v d)) (token.Number v d) (λ e p ts rest. rest) (f refl)
move_right (places.Week n) (Some token.Dash) fits h f =
    on (places.Week n) (places.WeekDash n) token.Dash (λ d p ts rest. rest) h
move_right (places.Week n) next fits h f = week_good n next h
move_right (places.WeekDash n) (Some (token.Number v d)) true h f =
    week_pair_good n v d (Some (token.Number v d)) true refl refl f h
move_right (places.WeekBack a b) (Some token.Slash) fits h f = record {}
move_right (places.WeekBack a b) next fits h f = week_back_good a b next h
move_right (places.WeekAgain a b) next fits h f = week_again_good a b next h
move_right (places.WeekRange a b) (Some token.Slash) fits h f =
    on (places.WeekRange a b) (places.WeekStep a b) token.Slash (λ d p ts rest. rest) h
move_right (places.WeekRange a b) next fits h f = week_range_good a b next h
move_right (places.WeekStep a b) (Some (token.Number v d)) true h f =
    week_step_good a b v d (Some (token.Number v d)) true refl refl f h
move_right (places.Weekday k) (Some token.Dash) fits h f =
    on (places.Weekday k) (places.WeekdayDash k) token.Dash (λ d p ts rest. rest) h
move_right (places.Weekday k) (Some token.OpenBracket) fits h f = weekday_bracket_good k (Some token.OpenBracket) refl h
move_right (places.Weekday k) next fits h f = weekday_good k next h
move_right (places.WeekdayDash k) (Some (token.Weekday l)) true h f =
    weekday_dash_good k l (Some (token.Weekday l)) true refl refl f h
move_right (places.Bracket k r) (Some (token.Number v d)) true h f =
    on (places.Bracket k r) (places.Nth k (written v d) r) (token.Number v d) (λ e p ts rest. rest)
    (record { one = h; other = f refl })
move_right (places.Bracket k r) (Some token.Dash) fits h f =
    on (places.Bracket k r) (places.BracketDash k r) token.Dash (λ d p ts rest. rest) h
move_right (places.BracketDash k r) (Some (token.Number v d)) true h f =
    bracket_dash_good k r v d (Some (token.Number v d)) true refl refl f h
move_right (places.Nth k n r) (Some token.Dash) fits h f =
    on (places.Nth k n r) (places.NthDash k n r) token.Dash (λ d p ts rest. rest) h
move_right (places.Nth k n r) next fits h f = nth_good k n r next h
move_right (places.NthDash k n r) (Some (token.Number v d)) true h f =
    nth_dash_good k n r v d (Some (token.Number v d)) true refl refl f h
move_right (places.BracketEnd k r) (Some token.Comma) fits h f = bracket_comma_good k r (Some token.Comma) refl h
move_right (places.BracketEnd k r) (Some token.CloseBracket) fits h f =
    bracket_close_good k r (Some token.CloseBracket) refl
move_right (places.PlacesEnd r) (Some token.Plus) fits h f =
    if_right (nat_le 1 r) (places.PlacesEnd r) (Some token.Plus) (take (places.OffsetSign false r))
    (λ e. plus_good r (Some token.Plus) refl (leb-true 1 r e))
move_right (places.PlacesEnd r) (Some token.Dash) fits h f =
    if_right (nat_le 2 r) (places.PlacesEnd r) (Some token.Dash) (take (places.OffsetSign true r))
    (λ e. dash_good r (Some token.Dash) refl (leb-true 2 r e))
move_right (places.PlacesEnd r) next fits h f = places_end_good r next
move_right (places.OffsetSign before r) (Some (token.Number v d)) true h f =
    offset_sign_good before r v d (Some (token.Number v d)) true refl refl f
move_right (places.OffsetNumber o) (Some token.Day) fits h f = offset_number_good o (Some token.Day) refl
move_right (places.Time t) (Some token.Dash) fits h f =
    on (places.Time t) (places.TimeDash t) token.Dash (λ d p ts rest. rest) h
move_right (places.TimeDash t) (Some (token.Time a b)) true h f =
    time_dash_good t a b (Some (token.Time a b)) true refl refl f
move_right (places.ListedDay x) (Some token.Dash) fits h f = listed_dash_good x (Some token.Dash) refl h
move_right (places.ListedDay x) (Some token.Slash) fits h f =
    if_right (x.day.value == 24 && x.day.count == 2) (places.ListedDay x) (Some token.Slash)
    (complete (piece.Rule link.Also) places.TwentyFourSlash)
    (λ e. let both = and_parts (x.day.value == 24) (x.day.count == 2) e in
    listed_slash_good x (Some token.Slash) refl (eqb-true x.day.value 24 both.0) (eqb-true x.day.count 2 both.1))
move_right (places.ListedDay x) next fits h f = listed_day_good x next h
move_right (places.AfterDate y m) (Some token.Comma) fits h f =
    on (places.AfterDate y m) (places.CommaDate y m) token.Comma (λ d p ts rest. rest) h
move_right (places.AfterDate y m) next fits h f =
    after_date_good y m next (after stage.MonthDays next fits)
    (after_right stage.MonthDays next fits refl (λ e. after_date_fits y m next (f e)))
move_right (places.CommaDate y m) (Some (token.Number v d)) true h f =
    comma_number_good y m v d (Some (token.Number v d)) true refl refl f h
move_right (places.CommaDate y m) (Some (token.Number v d)) false h f = record {}
move_right (places.CommaDate y m) next fits h f =
    comma_date_good y m next (comma stage.MonthDays next fits)
    (comma_right stage.MonthDays next (next_goes_on stage.MonthDays next) fits refl
    (λ e. comma_date_fits y m next (f e) refl) refl)
move_right (places.After s) next fits h f = after_right s next fits h f
move_right (places.Comma s) next fits h f = comma_right s next (next_goes_on s next) fits refl f h
move_right at next fits h f = record {}
