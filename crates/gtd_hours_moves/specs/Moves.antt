-- Which move a token, or the end of the text, makes at a place: the table that the code goes by. Whether a number, a time, a
-- month or a weekday fits next is given.
use Rattle.std.specs.Prelude.{ℕ, ◌-◌, ◌*◌, nat_le, Bool, true, false, ◌&&◌, ◌==◌, if◌then◌else◌, Option, Some, None}
use Rattle.gtd_hours.specs.declared.hours.Link.TheVariants as link
use Rattle.gtd_hours_tokens.specs.declared.token.TokenKind.TheVariants as token
use Rattle.gtd_hours_parts.specs.declared.digits.Digits.{Digits}
use Rattle.gtd_hours_parts.specs.declared.clock.ClockTime.{ClockTime}
use Rattle.gtd_hours_parts.specs.declared.piece.Offset.{Offset}
use Rattle.gtd_hours_parts.specs.declared.piece.WrittenDate.{WrittenDate}
use Rattle.gtd_hours_parts.specs.declared.piece.LastDate.TheVariants as last_date
use Rattle.gtd_hours_moves.specs.Terms.{TokenKind, Piece, Stage, Place, Move}
use Rattle.gtd_hours_parts.specs.declared.piece.Piece.TheVariants as piece
use Rattle.gtd_hours_moves.specs.declared.stage.Stage.TheVariants as stage
use Rattle.gtd_hours_moves.specs.declared.place.Place.TheVariants as places
use Rattle.gtd_hours_moves.specs.Grammar.{days_of_months, goes_on, precedes}
use Rattle.gtd_hours_parts.specs.declared.piece.LastDate.{LastDate}
use Rattle.gtd_hours_parts.specs.Pieces.{end_month, end_year, final_week, final_year, week_one}
use Rattle.gtd_hours_moves.specs.Sound.{is_last_year}

abbrev pub written : ℕ → ℕ → Digits
written value digits = record { value = value; count = digits }

abbrev pub clock : ℕ → ℕ → ClockTime
clock hour minute = record { hour = hour; minute = minute }

-- the token is used up
abbrev pub take : Place → Option Move
take to = Some (record { to = to; piece = None; takes = true })

-- it is used up, and a piece is complete
abbrev pub complete : Piece → Place → Option Move
complete x to = Some (record { to = to; piece = Some x; takes = true })

-- a piece was complete before it
abbrev pub give : Piece → Place → Option Move
give x to = Some (record { to = to; piece = Some x; takes = false })

abbrev pub when : Bool → Option Move → Option Move
when b m = if b then m else None

-- ---- rules

-- a later part of a rule begins
abbrev pub later : Stage → Option TokenKind → Bool → Option Move
later s (Some (token.Month m)) fits =
    when (fits && precedes s stage.MonthDays) (complete piece.Kind (places.Month m))
later s (Some token.Week) fits = when (precedes s stage.Weeks) (complete piece.Kind places.WeekWord)
later s (Some (token.Weekday k)) fits =
    when (fits && precedes s stage.Weekdays) (complete piece.Kind (places.Weekday k))
later s (Some (token.Time h m)) fits = when (fits && precedes s stage.Times) (take (places.Time (clock h m)))
later s (Some token.Open) fits = when (precedes s stage.Modifier) (take (places.After stage.Modifier))
later s (Some token.Closed) fits =
    when (precedes s stage.Modifier) (complete piece.Closed (places.After stage.Modifier))
later s next fits = None

-- `24/7` or a year begins a rule, or another part
abbrev pub front : Option TokenKind → Bool → Option Move
front (Some (token.Number v d)) fits =
    if v == 24 && d == 2 then take places.TwentyFour
    else when fits (complete piece.Kind (places.Year (written v d)))
front next fits = later stage.Front next fits

-- behind the last of a list
abbrev pub after : Stage → Option TokenKind → Bool → Option Move
after s (Some token.Semicolon) fits = complete (piece.Rule link.Instead) places.Front
after s (Some token.Comma) fits = take (places.Comma s)
after s (Some token.Colon) fits = when (precedes s stage.Colon) (take (places.After stage.Colon))
after s (Some (token.Number v d)) fits =
    when (fits && precedes s stage.MonthDays) (complete piece.Kind (places.DateYear (written v d)))
after s next fits = later s next fits

-- the list goes on with a number
abbrev pub listed_number : Stage → Digits → Option Move
listed_number stage.Years n = take (places.ListedYear n)
listed_number stage.MonthDays n = take (places.DateYear n)
listed_number stage.Weeks n = take (places.Week n)
listed_number s n = None

-- the list goes on
abbrev pub listed : Stage → Option TokenKind → Bool → Option Move
listed s (Some (token.Number v d)) fits = when fits (listed_number s (written v d))
listed s (Some (token.Month m)) fits = when fits (take (places.Month m))
listed s (Some (token.Weekday k)) fits = when fits (take (places.Weekday k))
listed s (Some (token.Time h m)) fits = when fits (take (places.Time (clock h m)))
listed s next fits = None

abbrev pub next_goes_on : Stage → Option TokenKind → Bool
next_goes_on s None = false
next_goes_on s (Some t) = goes_on s t

-- behind a comma the list goes on, or another rule begins
abbrev pub comma : Stage → Option TokenKind → Bool → Option Move
comma s next fits =
    if next_goes_on s next then listed s next fits else give (piece.Rule link.Also) places.Front

abbrev pub slash : Option TokenKind → Option Move
slash (Some token.Slash) = take places.TwentyFourSlash
slash next = None

abbrev pub always : Option TokenKind → Bool → Option Move
always (Some (token.Number v d)) fits = when fits (take (places.After stage.Always))
always next fits = None

-- ---- years

-- the years from one on
abbrev pub years_on : Digits → Option Digits → Option Move
years_on n step = complete (piece.Years n (Some final_year) step) (places.After stage.Years)

abbrev pub year : Digits → Option TokenKind → Bool → Option Move
year n (Some (token.Month m)) fits = when fits (take (places.YearMonth n m))
year n (Some token.Dash) fits = take (places.YearDash n)
year n (Some token.Slash) fits = take (places.YearSlash n)
year n (Some token.Plus) fits = years_on n None
year n next fits = give (piece.Years n None None) (places.After stage.Years)

abbrev pub year_month : Digits → ℕ → Option TokenKind → Bool → Option Move
year_month n m (Some (token.Number v d)) fits =
    when fits (take (places.Date (record { year = Some n; month = m; day = written v d })))
year_month n m (Some token.Dash) fits = take (places.YearMonthDash n m)
year_month n m next fits = give (piece.Years n None None) (places.MonthAfterYear m)

-- months of years, or a year and months
abbrev pub year_month_dash : Digits → ℕ → Option TokenKind → Bool → Option Move
year_month_dash n m (Some (token.Number v d)) fits = when fits (take (places.MonthsYear n m (written v d)))
year_month_dash n m (Some (token.Month l)) fits = give (piece.Years n None None) (places.MonthDashAfterYear m)
year_month_dash n m next fits = None

abbrev pub month_dash_after_year : ℕ → Option TokenKind → Option Move
month_dash_after_year m (Some (token.Month l)) = give piece.Kind (places.MonthDash m)
month_dash_after_year m next = None

abbrev pub listed_year : Digits → Option TokenKind → Option Move
listed_year n (Some token.Dash) = take (places.YearDash n)
listed_year n (Some token.Slash) = take (places.YearSlash n)
listed_year n (Some token.Plus) = years_on n None
listed_year n next = give (piece.Years n None None) (places.After stage.Years)

abbrev pub year_dash : Digits → Option TokenKind → Bool → Option Move
year_dash n (Some (token.Number v d)) fits = when fits (take (places.YearRange n (written v d)))
year_dash n next fits = None

abbrev pub year_range : Digits → Digits → Option TokenKind → Option Move
year_range a b (Some token.Slash) = take (places.YearStep a b)
year_range a b next = give (piece.Years a (Some b) None) (places.After stage.Years)

abbrev pub year_step : Digits → Digits → Option TokenKind → Bool → Option Move
year_step a b (Some (token.Number v d)) fits =
    when fits (complete (piece.Years a (Some b) (Some (written v d))) (places.After stage.Years))
year_step a b next fits = None

abbrev pub year_slash : Digits → Option TokenKind → Bool → Option Move
year_slash n (Some (token.Number v d)) fits = when fits (years_on n (Some (written v d)))
year_slash n next fits = None

-- ---- month days

abbrev pub date_year : Digits → Option TokenKind → Bool → Option Move
date_year n (Some (token.Month m)) fits = when fits (take (places.DateYearMonth n m))
date_year n next fits = None

abbrev pub date_year_month : Digits → ℕ → Option TokenKind → Bool → Option Move
date_year_month n m (Some (token.Number v d)) fits =
    when fits (take (places.Date (record { year = Some n; month = m; day = written v d })))
date_year_month n m (Some token.Dash) fits = take (places.DateYearMonthDash n m)
date_year_month n m next fits = None

abbrev pub date_year_month_dash : Digits → ℕ → Option TokenKind → Bool → Option Move
date_year_month_dash n m (Some (token.Number v d)) fits = when fits (take (places.MonthsYear n m (written v d)))
date_year_month_dash n m next fits = None

abbrev pub months_year : Digits → ℕ → Digits → Option TokenKind → Bool → Option Move
months_year a m b (Some (token.Month l)) fits = when fits (complete (days_of_months a m b l) (places.After stage.MonthDays))
months_year a m b next fits = None

abbrev pub month : ℕ → Option TokenKind → Bool → Option Move
month m (Some (token.Number v d)) fits =
    when fits (take (places.Date (record { year = None; month = m; day = written v d })))
month m (Some token.Dash) fits = take (places.MonthDash m)
month m next fits = give (piece.Months m None) (places.After stage.MonthDays)

abbrev pub month_dash : ℕ → Option TokenKind → Bool → Option Move
month_dash m (Some (token.Month l)) fits = when fits (complete (piece.Months m (Some l)) (places.After stage.MonthDays))
month_dash m next fits = None

abbrev pub date : WrittenDate → Option TokenKind → Option Move
date x (Some token.Dash) = take (places.DateDash x)
date x next = give (piece.Dates x None) (places.AfterDate x.year x.month)

-- a day behind a comma, or `24` of another rule
abbrev pub listed_day : WrittenDate → Option TokenKind → Option Move
listed_day x (Some token.Dash) = take (places.DateDash x)
listed_day x (Some token.Slash) =
    when (x.day.value == 24 && x.day.count == 2) (complete (piece.Rule link.Also) places.TwentyFourSlash)
listed_day x next = give (piece.Dates x None) (places.AfterDate x.year x.month)

-- a range of dates is complete
abbrev pub dates_end : WrittenDate → LastDate → Option Move
dates_end x last =
    complete (piece.Dates x (Some last)) (places.AfterDate (end_year x (Some last)) (end_month x (Some last)))

-- a year, or the day that ends the range
abbrev pub year_or_day : WrittenDate → Digits → Option Move
year_or_day x n =
    if is_last_year x n then take (places.DateDashYear x n)
    else dates_end x (last_date.Day n)

abbrev pub date_dash : WrittenDate → Option TokenKind → Bool → Option Move
date_dash x (Some (token.Number v d)) fits = when fits (year_or_day x (written v d))
date_dash x (Some (token.Month m)) fits = when fits (take (places.DateDashMonth x None m))
date_dash x next fits = None

abbrev pub date_dash_year : WrittenDate → Digits → Option TokenKind → Bool → Option Move
date_dash_year x n (Some (token.Month m)) fits = when fits (take (places.DateDashMonth x (Some n) m))
date_dash_year x n next fits = None

abbrev pub date_dash_month : WrittenDate → Option Digits → ℕ → Option TokenKind → Bool → Option Move
date_dash_month x y m (Some (token.Number v d)) fits =
    when fits (dates_end x (last_date.Date (record { year = y; month = m; day = written v d })))
date_dash_month x y m next fits = None

-- behind a date or a range of dates
abbrev pub after_date : Option Digits → ℕ → Option TokenKind → Bool → Option Move
after_date y m (Some token.Comma) fits = take (places.CommaDate y m)
after_date y m next fits = after stage.MonthDays next fits

-- a year, or a day of the month
abbrev pub year_or_listed : Option Digits → ℕ → Digits → Option Move
year_or_listed y m n =
    if n.count == 4 then take (places.DateYear n)
    else take (places.ListedDay (record { year = y; month = m; day = n }))

abbrev pub comma_date : Option Digits → ℕ → Option TokenKind → Bool → Option Move
comma_date y m (Some (token.Number v d)) fits =
    when fits (year_or_listed y m (written v d))
comma_date y m next fits = comma stage.MonthDays next fits

-- ---- weeks

abbrev pub week_word : Option TokenKind → Bool → Option Move
week_word (Some (token.Number v d)) fits = when fits (take (places.Week (written v d)))
week_word next fits = None

abbrev pub week : Digits → Option TokenKind → Option Move
week n (Some token.Dash) = take (places.WeekDash n)
week n next = give (piece.Weeks n None None) (places.After stage.Weeks)

-- from one week to another, which may be before it
abbrev pub week_pair : Digits → Digits → Option Move
week_pair a b = if nat_le a.value b.value then take (places.WeekRange a b) else take (places.WeekBack a b)

abbrev pub week_dash : Digits → Option TokenKind → Bool → Option Move
week_dash n (Some (token.Number v d)) fits = when fits (week_pair n (written v d))
week_dash n next fits = None

abbrev pub week_range : Digits → Digits → Option TokenKind → Option Move
week_range a b (Some token.Slash) = take (places.WeekStep a b)
week_range a b next = give (piece.Weeks a (Some b) None) (places.After stage.Weeks)

-- the weeks to the last one, and those from the first one on
abbrev pub week_back : Digits → Digits → Option TokenKind → Option Move
week_back a b (Some token.Slash) = None
week_back a b next = give (piece.Weeks a (Some final_week) None) (places.WeekAgain a b)

abbrev pub week_again : Digits → Option Move
week_again b = give (piece.Weeks week_one (Some b) None) (places.After stage.Weeks)

abbrev pub week_step : Digits → Digits → Option TokenKind → Bool → Option Move
week_step a b (Some (token.Number v d)) fits =
    when fits (complete (piece.Weeks a (Some b) (Some (written v d))) (places.After stage.Weeks))
week_step a b next fits = None

-- ---- weekdays

abbrev pub weekday : ℕ → Option TokenKind → Option Move
weekday k (Some token.Dash) = take (places.WeekdayDash k)
weekday k (Some token.OpenBracket) = take (places.Bracket k 28)
weekday k next = give (piece.Weekdays k None) (places.After stage.Weekdays)

abbrev pub weekday_dash : ℕ → Option TokenKind → Bool → Option Move
weekday_dash k (Some (token.Weekday l)) fits =
    when fits (complete (piece.Weekdays k (Some l)) (places.After stage.Weekdays))
weekday_dash k next fits = None

-- the reach with one place more, from the beginning of the month or back from its end
abbrev pub front_reach : ℕ → ℕ → ℕ
front_reach reach place = if nat_le place 4 then reach else 0

abbrev pub back_most : ℕ → ℕ
back_most place = if nat_le place 4 then 29 - 7 * place else 0

abbrev pub back_reach : ℕ → ℕ → ℕ
back_reach reach place = if nat_le reach (back_most place) then reach else back_most place

abbrev pub bracket : ℕ → ℕ → Option TokenKind → Bool → Option Move
bracket k r (Some (token.Number v d)) fits = when fits (take (places.Nth k (written v d) r))
bracket k r (Some token.Dash) fits = take (places.BracketDash k r)
bracket k r next fits = None

abbrev pub bracket_dash : ℕ → ℕ → Option TokenKind → Bool → Option Move
bracket_dash k r (Some (token.Number v d)) fits =
    when fits (complete (piece.PlaceBack k (written v d)) (places.BracketEnd k (back_reach r v)))
bracket_dash k r next fits = None

abbrev pub nth : ℕ → Digits → ℕ → Option TokenKind → Option Move
nth k n r (Some token.Dash) = take (places.NthDash k n r)
nth k n r next = give (piece.Places k n None) (places.BracketEnd k (front_reach r n.value))

abbrev pub nth_dash : ℕ → Digits → ℕ → Option TokenKind → Bool → Option Move
nth_dash k n r (Some (token.Number v d)) fits =
    when fits (complete (piece.Places k n (Some (written v d))) (places.BracketEnd k (front_reach r v)))
nth_dash k n r next fits = None

abbrev pub bracket_end : ℕ → ℕ → Option TokenKind → Option Move
bracket_end k r (Some token.Comma) = take (places.Bracket k r)
bracket_end k r (Some token.CloseBracket) = take (places.PlacesEnd r)
bracket_end k r next = None

-- behind brackets an offset may follow
abbrev pub places_end : ℕ → Option TokenKind → Option Move
places_end r (Some token.Plus) = when (nat_le 1 r) (take (places.OffsetSign false r))
places_end r (Some token.Dash) = when (nat_le 2 r) (take (places.OffsetSign true r))
places_end r next = give (piece.PlacesEnd None) (places.After stage.Weekdays)

abbrev pub offset_of : Bool → ℕ → ℕ → Offset
offset_of before value digits = record { is_before = before; days = written value digits }

abbrev pub offset_sign : Bool → Option TokenKind → Bool → Option Move
offset_sign before (Some (token.Number v d)) fits = when fits (take (places.OffsetNumber (offset_of before v d)))
offset_sign before next fits = None

abbrev pub offset_number : Offset → Option TokenKind → Option Move
offset_number o (Some token.Day) = complete (piece.PlacesEnd (Some o)) (places.After stage.Weekdays)
offset_number o next = None

-- ---- times

abbrev pub time : ClockTime → Option TokenKind → Option Move
time t (Some token.Dash) = take (places.TimeDash t)
time t next = None

abbrev pub time_dash : ClockTime → Option TokenKind → Bool → Option Move
time_dash t (Some (token.Time h m)) fits =
    when fits (complete (piece.Times t (clock h m)) (places.After stage.Times))
time_dash t next fits = None

-- ---- the table

abbrev pub next_move : Place → Option TokenKind → Bool → Option Move
next_move places.Front next fits = front next fits
next_move places.TwentyFour next fits = slash next
next_move places.TwentyFourSlash next fits = always next fits
next_move (places.Year n) next fits = year n next fits
next_move (places.YearMonth n m) next fits = year_month n m next fits
next_move (places.MonthAfterYear m) next fits = give piece.Kind (places.Month m)
next_move (places.YearMonthDash n m) next fits = year_month_dash n m next fits
next_move (places.MonthDashAfterYear m) next fits = month_dash_after_year m next
next_move (places.ListedYear n) next fits = listed_year n next
next_move (places.YearDash n) next fits = year_dash n next fits
next_move (places.YearRange a b) next fits = year_range a b next
next_move (places.YearStep a b) next fits = year_step a b next fits
next_move (places.YearSlash n) next fits = year_slash n next fits
next_move (places.DateYear n) next fits = date_year n next fits
next_move (places.DateYearMonth n m) next fits = date_year_month n m next fits
next_move (places.DateYearMonthDash n m) next fits = date_year_month_dash n m next fits
next_move (places.MonthsYear a m b) next fits = months_year a m b next fits
next_move (places.Month m) next fits = month m next fits
next_move (places.MonthDash m) next fits = month_dash m next fits
next_move (places.Date x) next fits = date x next
next_move (places.ListedDay x) next fits = listed_day x next
next_move (places.DateDash x) next fits = date_dash x next fits
next_move (places.DateDashYear x n) next fits = date_dash_year x n next fits
next_move (places.DateDashMonth x y m) next fits = date_dash_month x y m next fits
next_move places.WeekWord next fits = week_word next fits
next_move (places.Week n) next fits = week n next
next_move (places.WeekDash n) next fits = week_dash n next fits
next_move (places.WeekRange a b) next fits = week_range a b next
next_move (places.WeekStep a b) next fits = week_step a b next fits
next_move (places.WeekBack a b) next fits = week_back a b next
next_move (places.WeekAgain a b) next fits = week_again b
next_move (places.Weekday k) next fits = weekday k next
next_move (places.WeekdayDash k) next fits = weekday_dash k next fits
next_move (places.Bracket k r) next fits = bracket k r next fits
next_move (places.BracketDash k r) next fits = bracket_dash k r next fits
next_move (places.Nth k n r) next fits = nth k n r next
next_move (places.NthDash k n r) next fits = nth_dash k n r next fits
next_move (places.BracketEnd k r) next fits = bracket_end k r next
next_move (places.PlacesEnd r) next fits = places_end r next
next_move (places.OffsetSign before r) next fits = offset_sign before next fits
next_move (places.OffsetNumber o) next fits = offset_number o next
next_move (places.Time t) next fits = time t next
next_move (places.TimeDash t) next fits = time_dash t next fits
next_move (places.AfterDate y m) next fits = after_date y m next fits
next_move (places.CommaDate y m) next fits = comma_date y m next fits
next_move (places.After s) next fits = after s next fits
next_move (places.Comma s) next fits = comma s next fits

-- how many moves that use up no token can follow one another
abbrev pub rank : Place → ℕ
rank (places.YearMonth n m) = 3
rank (places.MonthAfterYear m) = 2
rank (places.YearMonthDash n m) = 3
rank (places.MonthDashAfterYear m) = 2
rank (places.WeekBack a b) = 2
rank places.Front = 0
rank (places.After s) = 0
rank (places.AfterDate y m) = 0
rank (places.BracketEnd k r) = 0
rank place = 1
