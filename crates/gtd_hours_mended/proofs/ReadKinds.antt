-- Plain hours have no token that they do not read, so comments are no part of them.
use Rattle.std.proofs.Common.{◌≡◌, refl, sym, subst, ℕ, Bool, true, false, List, [], ◌∷◌, Option, Some, None}
use Rattle.std.specs.Prelude.{◌&&◌, not}
use Rattle.gtd_hours_tokens.specs.declared.token.TokenKind.TheVariants as token
use Rattle.gtd_hours_parts.specs.declared.digits.Digits.{Digits}
use Rattle.gtd_hours_parts.specs.declared.piece.LastDate.{LastDate}
use Rattle.gtd_hours_parts.specs.declared.piece.LastDate.TheVariants as last_date
use Rattle.gtd_hours_parts.specs.declared.piece.Offset.{Offset}
use Rattle.gtd_hours_parts.specs.declared.piece.WrittenDate.{WrittenDate}
use Rattle.gtd_hours_moves.specs.Terms.{Piece, TokenKind}
use Rattle.gtd_hours_moves.specs.declared.stage.Stage.{Stage}
use Rattle.gtd_hours_moves.specs.declared.stage.Stage.TheVariants as stage
use Rattle.gtd_hours_moves.specs.Grammar.{AreHours, Follow, IsDates, IsMonthDays, IsPlaces, IsTimes, IsWeekdays, IsWeeks, IsYears}
use Rattle.gtd_hours_moves.specs.Grammar.{Listed, More, Text, date_before, dated, in_full, last_before, number, offset_before}
use Rattle.gtd_hours_moves.specs.Grammar.{range_to, sign}
use Rattle.gtd_hours_parts.specs.Pieces.{day_behind}
use Rattle.gtd_hours_moving.specs.Words.{is_unread}

-- each of the tokens is one that plain hours read
abbrev pub all_read : List TokenKind → Bool
all_read [] = true
all_read (t ∷ ts) = not (is_unread t) && all_read ts

-- they are all so
abbrev AreRead : List TokenKind → Type 0
AreRead ts = all_read ts ≡ true

-- tokens that equal others are read if those are
by_tokens : (ts us : List TokenKind) → ts ≡ us → AreRead us → AreRead ts
by_tokens ts us e r = subst AreRead (sym e) r

-- ---- lists

-- what goes on behind one of a list is read
more_read : (IsOne : Text) → ((p : List Piece) (ts : List TokenKind) (later : List Piece) (rest : List TokenKind)
    → IsOne p ts later rest → AreRead rest → AreRead ts)
    → (later : List Piece) (rest : List TokenKind) (p : List Piece) (ts : List TokenKind) → More IsOne later rest p ts
    → AreRead rest → AreRead ts
more_read IsOne one later rest p ts (More.none q us a b) r = by_tokens ts rest b r
more_read IsOne one later rest p ts (More.comma o q c us vs a h more) r =
    by_tokens ts (token.Comma ∷ us) a (one p us q vs h (more_read IsOne one later rest q vs more r))

-- and so is a list
list_read : (IsOne : Text) → ((p : List Piece) (ts : List TokenKind) (later : List Piece) (rest : List TokenKind)
    → IsOne p ts later rest → AreRead rest → AreRead ts)
    → (p : List Piece) (ts : List TokenKind) (later : List Piece) (rest : List TokenKind) → Listed IsOne p ts later rest
    → AreRead rest → AreRead ts
list_read IsOne one p ts later rest l r =
    one p ts l.q l.us l.one (more_read IsOne one later rest l.q l.us l.more r)

-- ---- what stands in lists

-- years are read
years_read : (p : List Piece) (ts : List TokenKind) (later : List Piece) (rest : List TokenKind)
    → IsYears in_full p ts later rest → AreRead rest → AreRead ts
years_read p ts later rest (IsYears.one n e b h) r = by_tokens ts _ e r
years_read p ts later rest (IsYears.range m n e b h) r = by_tokens ts _ e r
years_read p ts later rest (IsYears.every m n k e b h s) r = by_tokens ts _ e r
years_read p ts later rest (IsYears.on n e b h) r = by_tokens ts _ e r
years_read p ts later rest (IsYears.every_on n k e b h s) r = by_tokens ts _ e r
years_read p ts later rest (IsYears.many n k d e b c h s) r = absurd cc

-- and so are weeks
weeks_read : (p : List Piece) (ts : List TokenKind) (later : List Piece) (rest : List TokenKind)
    → IsWeeks in_full p ts later rest → AreRead rest → AreRead ts
weeks_read p ts later rest (IsWeeks.one n e b h) r = by_tokens ts _ e r
weeks_read p ts later rest (IsWeeks.range m n e b h) r = by_tokens ts _ e r
weeks_read p ts later rest (IsWeeks.every m n k e b h s) r = by_tokens ts _ e r
weeks_read p ts later rest (IsWeeks.back m n e b h) r = by_tokens ts _ e r
weeks_read p ts later rest (IsWeeks.back_step m n d e b c h) r = absurd cc

-- a month with or without a year is read
dated_read : (year : Option Digits) (month : ℕ) (ts : List TokenKind) → AreRead ts → AreRead (dated year month ts)
dated_read None month ts r = r
dated_read (Some year) month ts r = r

-- a date is read
date_read : (date : WrittenDate) (rest : List TokenKind) → AreRead rest → AreRead (date_before date rest)
date_read date rest r = dated_read date.year date.month (number date.day ∷ rest) r

-- the end of a range is read
last_read : (last : LastDate) (rest : List TokenKind) → AreRead rest → AreRead (last_before last rest)
last_read (last_date.Day day) rest r = r
last_read (last_date.Date date) rest r = date_read date rest r

-- and so is a range
range_read : (last : Option LastDate) (rest : List TokenKind) → AreRead rest → AreRead (range_to last rest)
range_read None rest r = r
range_read (Some last) rest r = last_read last rest r

-- dates are read
dates_read : (later : List Piece) (rest : List TokenKind) (x : WrittenDate) (p : List Piece) (ts : List TokenKind)
    → IsDates in_full later rest x p ts → AreRead rest → AreRead ts
dates_read later rest x p ts (IsDates.one y last q us e b h) r = by_tokens ts _ e (range_read last rest r)
dates_read later rest x p ts (IsDates.also y last n o q ss us e b h k more) r =
    by_tokens ts _ e (range_read last (token.Comma ∷ number n ∷ us) (dates_read later rest (day_behind x last n) q us more r))
dates_read later rest x p ts (IsDates.cut y year m q us e a b c f g h) r = absurd cc
dates_read later rest x p ts (IsDates.any_day y last q us e a b c f g h) r = absurd cc

-- and so are all month days
month_days_read : (p : List Piece) (ts : List TokenKind) (later : List Piece) (rest : List TokenKind)
    → IsMonthDays in_full p ts later rest → AreRead rest → AreRead ts
month_days_read p ts later rest (IsMonthDays.month m e b h) r = by_tokens ts _ e r
month_days_read p ts later rest (IsMonthDays.months m n e b h k) r = by_tokens ts _ e r
month_days_read p ts later rest (IsMonthDays.dates x us e h k) r =
    by_tokens ts _ e (date_read x us (dates_read later rest x p us k r))
month_days_read p ts later rest (IsMonthDays.of_years a b m l e d f g h) r = by_tokens ts _ e r
month_days_read p ts later rest (IsMonthDays.cut a b m d e f g h k) r = absurd cc
month_days_read p ts later rest (IsMonthDays.any_month a b m l d e f g h k) r = absurd cc

-- the sign of an offset is read
sign_read : (before : Bool) (rest : List TokenKind) → AreRead rest → AreRead (sign before ∷ rest)
sign_read true rest r = r
sign_read false rest r = r

-- and so is the offset
offset_read : (offset : Option Offset) (rest : List TokenKind) → AreRead rest → AreRead (offset_before offset rest)
offset_read None rest r = r
offset_read (Some o) rest r = sign_read o.is_before (number o.days ∷ token.Day ∷ rest) r

-- places in brackets are read
places_read : (weekday : ℕ) (offset : Option Offset) (p : List Piece) (ts : List TokenKind) (later : List Piece)
    (rest : List TokenKind) → IsPlaces weekday offset p ts later rest → AreRead rest → AreRead ts
places_read weekday offset p ts later rest (IsPlaces.one n e b h s) r = by_tokens ts _ e r
places_read weekday offset p ts later rest (IsPlaces.range m n e b h s) r = by_tokens ts _ e r
places_read weekday offset p ts later rest (IsPlaces.back n e b h s) r = by_tokens ts _ e r

-- and so are weekdays
weekdays_read : (p : List Piece) (ts : List TokenKind) (later : List Piece) (rest : List TokenKind)
    → IsWeekdays p ts later rest → AreRead rest → AreRead ts
weekdays_read p ts later rest (IsWeekdays.one k e b h) r = by_tokens ts _ e r
weekdays_read p ts later rest (IsWeekdays.range k l e b h g) r = by_tokens ts _ e r
weekdays_read p ts later rest (IsWeekdays.places k offset us e h o l) r =
    by_tokens ts _ e (list_read (IsPlaces k offset) (places_read k offset) p us _ _ l (offset_read offset rest r))

-- times are read
times_read : (p : List Piece) (ts : List TokenKind) (later : List Piece) (rest : List TokenKind) → IsTimes p ts later rest
    → AreRead rest → AreRead ts
times_read p ts later rest t r = by_tokens ts _ t.tokens r

-- ---- rules

-- What is the rest of plain hours, wherever a rule has come to, is read.
follow_read : (s : Stage) (p : List Piece) (ts : List TokenKind) → Follow in_full s p ts → AreRead ts
follow_read s p ts (Follow.always a b c us e h f) = by_tokens ts _ h (follow_read stage.Always p us f)
follow_read s p ts (Follow.years a b q l c rest h k e x f) =
    list_read (IsYears in_full) years_read q ts l rest x (follow_read stage.Years l rest f)
follow_read s p ts (Follow.month_days a b q l c rest h e x f) =
    list_read (IsMonthDays in_full) month_days_read q ts l rest x (follow_read stage.MonthDays l rest f)
follow_read s p ts (Follow.weeks a b q l c us rest h d e x f) =
    by_tokens ts _ d (list_read (IsWeeks in_full) weeks_read q us l rest x (follow_read stage.Weeks l rest f))
follow_read s p ts (Follow.colon a b c us h k e f) = by_tokens ts _ e (follow_read stage.Colon p us f)
follow_read s p ts (Follow.weekdays a b q l c rest h e x f) =
    list_read IsWeekdays weekdays_read q ts l rest x (follow_read stage.Weekdays l rest f)
follow_read s p ts (Follow.times a b l c rest h x f) =
    list_read IsTimes times_read p ts l rest x (follow_read stage.Times l rest f)
follow_read s p ts (Follow.opens a b c us h e f) = by_tokens ts _ e (follow_read stage.Modifier p us f)
follow_read s p ts (Follow.closes a b q c us h e d f) = by_tokens ts _ e (follow_read stage.Modifier q us f)
follow_read s p ts (Follow.ends a b c h e d) = by_tokens ts [] d refl
follow_read s p ts (Follow.instead a b q c us h e d f) = by_tokens ts _ e (follow_read stage.Front q us f)
follow_read s p ts (Follow.also a b q c us h e g d f) = by_tokens ts _ e (follow_read stage.Front q us f)

-- All tokens of plain hours are read.
pub hours_read : (p : List Piece) (ts : List TokenKind) → AreHours p ts → all_read ts ≡ true
hours_read p ts f = follow_read stage.Front p ts f
