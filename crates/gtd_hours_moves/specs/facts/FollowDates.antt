-- The run over a list of months and dates.
use Rattle.std.proofs.Common.{◌≡◌, ℕ, ◌≤◌, Bool, true, false, List, [], ◌∷◌, Option, Some, None, refl, sym, ap, subst, ◌∙◌, arith}
use Rattle.std.specs.Prelude.{◌==◌, ◌&&◌, if◌then◌else◌, IfSome, is_some, option_map}
use Rattle.std.proofs.lemmas.Int.{ints}
use Rattle.std.proofs.lemmas.Bool.{eq-eqb, ne_eqb}
use Rattle.gtd_hours.specs.Ranges.{IsMonth}
use Rattle.gtd_hours.specs.declared.hours.Link.TheVariants as link
use Rattle.gtd_hours_tokens.specs.declared.token.TokenKind.{TokenKind}
use Rattle.gtd_hours_tokens.specs.declared.token.TokenKind.TheVariants as token
use Rattle.gtd_hours_parts.specs.declared.digits.Digits.{Digits}
use Rattle.gtd_hours_parts.specs.Numbers.{IsYearNumber}
use Rattle.gtd_hours_parts.specs.Dates.{IsDayOfYear, IsWrittenDay, last_year}
use Rattle.gtd_hours_parts.specs.declared.piece.WrittenDate.{WrittenDate}
use Rattle.gtd_hours_parts.specs.declared.piece.LastDate.{LastDate}
use Rattle.gtd_hours_parts.specs.declared.piece.LastDate.TheVariants as last_date
use Rattle.gtd_hours_moves.specs.Terms.{Piece, Place}
use Rattle.gtd_hours_parts.specs.declared.piece.Piece.TheVariants as piece
use Rattle.gtd_hours_moves.specs.declared.stage.Stage.TheVariants as stage
use Rattle.gtd_hours_moves.specs.declared.place.Place.TheVariants as places
use Rattle.gtd_hours_moves.specs.Grammar.{Demand, may_break_off, IsDates, IsMonthDays, Listed, number}
use Rattle.gtd_hours_moves.specs.Grammar.{date_before, dated, days_of_months, last_before, months_to, range_to}
use Rattle.gtd_hours_moves.specs.Grammar.{unfinished}
use Rattle.gtd_hours_parts.specs.Pieces.{AreWrittenDates, EndsRange, IsDay, IsLastDay, IsRange, IsWrittenDate, day_behind}
use Rattle.gtd_hours_parts.specs.Pieces.{end_month, end_year, year_at_end, year_or_next}
use Rattle.gtd_hours_moves.specs.Sound.{YearOrDay, is_last_year}
use Rattle.gtd_hours_moves.specs.Moves.{complete, dates_end, give, take}
use Rattle.gtd_hours_moves.specs.Runs.{Runs, is_judged, may_judge}
use Rattle.gtd_hours_moves.specs.Runs.Runs.{cut, any_last}
use Rattle.gtd_hours_moves.specs.facts.RunSteps.{fit_taken, fit_completed, sign_taken, no_token, held, not_fit}
use Rattle.gtd_hours_moves.specs.facts.FollowBits.{begin_bit, month_bit, next_bit, no_bit}
use Rattle.gtd_hours_moves.specs.facts.FollowSteps.{after_nothing, comma_runs, given_by, more_runs, renamed}
use Rattle.gtd_hours_moves.specs.facts.FollowDays.{after_date_runs, listed_day_runs}
use Rattle.gtd_hours_moves.specs.facts.FollowYears.{goes_on_if}

-- ---- months and dates that are given

-- no number stands behind a list of dates
no_number_behind : (demand : Demand) (q : List Piece) (v d : ℕ) (ts : List TokenKind)
    → Runs demand (places.After stage.MonthDays) q (token.Number v d ∷ ts) → ⊥
no_number_behind demand q v d ts =
    no_token demand (places.After stage.MonthDays) q (token.Number v d) ts refl
    (λ fits. held (fits && false) (complete piece.Kind (places.DateYear (record { value = v; count = d })))
    (not_fit fits false refl))

month_given : (demand : Demand) (m : ℕ) (q : List Piece) (ts : List TokenKind) → Runs demand (places.After stage.MonthDays) q ts
    → Runs demand (places.Month m) (piece.Months m None ∷ q) ts
month_given demand m q (token.Dash ∷ ts) go =
    absurd (no_token demand (places.After stage.MonthDays) q token.Dash ts refl (λ fits. refl) go)
month_given demand m q (token.Number v d ∷ ts) go = absurd (no_number_behind demand q v d ts go)
month_given demand m q [] go =
    given_by demand (places.Month m) (places.After stage.MonthDays) (piece.Months m None) q [] (no_bit ⊥ (λ x. x))
    (λ fits. refl) go
month_given demand m q (t ∷ ts) go =
    given_by demand (places.Month m) (places.After stage.MonthDays) (piece.Months m None) q (t ∷ ts)
    (next_bit (places.Month m) (Some t) (λ v d e. absurd cc) begin_bit month_bit) (λ fits. refl) go

date_given : (demand : Demand) (x : WrittenDate) (q : List Piece) (ts : List TokenKind)
    → Runs demand (places.AfterDate x.year x.month) q ts → Runs demand (places.Date x) (piece.Dates x None ∷ q) ts
date_given demand x q (token.Dash ∷ ts) go =
    absurd (no_token demand (places.AfterDate x.year x.month) q token.Dash ts refl (λ fits. refl) go)
date_given demand x q [] go =
    given_by demand (places.Date x) (places.AfterDate x.year x.month) (piece.Dates x None) q [] (no_bit ⊥ (λ x. x))
    (λ fits. refl) go
date_given demand x q (t ∷ ts) go =
    given_by demand (places.Date x) (places.AfterDate x.year x.month) (piece.Dates x None) q (t ∷ ts)
    (next_bit (places.Date x) (Some t) (λ v d e. no_bit ⊥ (λ x. x)) begin_bit month_bit) (λ fits. refl) go

day_given : (demand : Demand) (x : WrittenDate) (q : List Piece) (ts : List TokenKind)
    → Runs demand (places.AfterDate x.year x.month) q ts → Runs demand (places.ListedDay x) (piece.Dates x None ∷ q) ts
day_given demand x q (token.Dash ∷ ts) go =
    absurd (no_token demand (places.AfterDate x.year x.month) q token.Dash ts refl (λ fits. refl) go)
day_given demand x q (token.Slash ∷ ts) go =
    absurd (no_token demand (places.AfterDate x.year x.month) q token.Slash ts refl (λ fits. refl) go)
day_given demand x q [] go =
    given_by demand (places.ListedDay x) (places.AfterDate x.year x.month) (piece.Dates x None) q [] (no_bit ⊥ (λ x. x))
    (λ fits. refl) go
day_given demand x q (t ∷ ts) go =
    given_by demand (places.ListedDay x) (places.AfterDate x.year x.month) (piece.Dates x None) q (t ∷ ts)
    (next_bit (places.ListedDay x) (Some t) (λ v d e. no_bit ⊥ (λ x. x)) begin_bit month_bit) (λ fits. refl) go

-- ---- the last date of a range

-- the month of a day
month_of_day : (m : ℕ) (day : Digits) → IsWrittenDay m day → IsMonth m
month_of_day m day is = is.1.0

month_of_last : (y : Option Digits) (m : ℕ) (day : Digits) (year : Option Digits) (l : ℕ) (last : Digits)
    → IsLastDay y m day year l last → IsMonth l
month_of_last None m day None l last is = is.1.0
month_of_last None m day (Some year) l last is = absurd is
month_of_last (Some y) m day None l last is = is.0.1.1.0
month_of_last (Some y) m day (Some year) l last is = is.1.0.1.1.0

-- a last day has two digits at most, so that it is no year
short_day : (y : Option Digits) (m : ℕ) (day last : Digits) → IsLastDay y m day None m last → last.count ≤ 2
short_day None m day last is = is.0.1
short_day (Some y) m day last is = is.0.0.1

day_no_year : (x : WrittenDate) (last : Digits) → EndsRange x (last_date.Day last) → is_last_year x last ≡ false
day_no_year x last is =
    let short = short_day x.year x.month x.day last is in
    not_fit (is_some x.year) (last.count == 4) (ne_eqb last.count 4 (λ e. omega (arith, short, e)))

-- behind a range of dates
abbrev at_end : WrittenDate → LastDate → Place
at_end x last = places.AfterDate (end_year x (Some last)) (end_month x (Some last))

-- the last day
last_day_runs : (demand : Demand) (x : WrittenDate) (last : Digits) (q : List Piece) (ts : List TokenKind)
    → EndsRange x (last_date.Day last) → Runs demand (at_end x (last_date.Day last)) q ts
    → Runs demand (places.DateDash x) (piece.Dates x (Some (last_date.Day last)) ∷ q) (number last ∷ ts)
last_day_runs demand x last q ts is go =
    let day = day_no_year x last is in
    fit_completed demand (places.DateDash x) (at_end x (last_date.Day last)) (piece.Dates x (Some (last_date.Day last))) q
    (number last) ts (subst (λ (b : Bool). YearOrDay b x last) (sym day) is)
    (ap (λ (b : Bool). if b then take (places.DateDashYear x last) else dates_end x (last_date.Day last)) day) go

-- the year of a last date
last_year_runs : (demand : Demand) (x : WrittenDate) (n : Digits) (p : List Piece) (ts : List TokenKind) → is_some x.year ≡ true
    → IsYearNumber n → Runs demand (places.DateDashYear x n) p ts → Runs demand (places.DateDash x) p (number n ∷ ts)
last_year_runs demand x n p ts some is go =
    let year : is_last_year x n ≡ true =
    ap (λ (b : Bool). b && n.count == 4) some ∙ eq-eqb n.count 4 is.0 in
    fit_taken demand (places.DateDash x) (places.DateDashYear x n) p (number n) ts
    (subst (λ (b : Bool). YearOrDay b x n) (sym year) is)
    (ap (λ (b : Bool). if b then take (places.DateDashYear x n) else dates_end x (last_date.Day n)) year) go

-- the year, if there is one, and the month of a last date
last_month_runs : (demand : Demand) (x : WrittenDate) (year : Option Digits) (m : ℕ) (p : List Piece) (ts : List TokenKind)
    → (is_some year ≡ true → is_some x.year ≡ true) → IfSome year IsYearNumber → IsMonth m
    → Runs demand (places.DateDashMonth x year m) p ts → Runs demand (places.DateDash x) p (dated year m ts)
last_month_runs demand x None m p ts some is month go =
    fit_taken demand (places.DateDash x) (places.DateDashMonth x None m) p (token.Month m) ts month refl go
last_month_runs demand x (Some n) m p ts some is month go =
    last_year_runs demand x n p (token.Month m ∷ ts) (some refl) is
    (fit_taken demand (places.DateDashYear x n) (places.DateDashMonth x (Some n) m) p (token.Month m) ts month refl go)

-- a year of a last date stands only after one
years_agree : (y : Option Digits) (m : ℕ) (day : Digits) (year : Option Digits) (l : ℕ) (last : Digits)
    → IsLastDay y m day year l last → is_some year ≡ true → is_some y ≡ true
years_agree None m day None l last is e = e
years_agree None m day (Some year) l last is e = absurd is
years_agree (Some y) m day year l last is e = refl

year_of_last : (y : Option Digits) (m : ℕ) (day : Digits) (year : Option Digits) (l : ℕ) (last : Digits)
    → IsLastDay y m day year l last → IfSome year IsYearNumber
year_of_last None m day None l last is = tt
year_of_last None m day (Some year) l last is = absurd is
year_of_last (Some y) m day None l last is = tt
year_of_last (Some y) m day (Some year) l last is = is.0

last_runs : (demand : Demand) (x : WrittenDate) (last : LastDate) (q : List Piece) (ts : List TokenKind) → EndsRange x last
    → Runs demand (at_end x last) q ts
    → Runs demand (places.DateDash x) (piece.Dates x (Some last) ∷ q) (last_before last ts)
last_runs demand x (last_date.Day last) q ts is go = last_day_runs demand x last q ts is go
last_runs demand x (last_date.Date l) q ts is go =
    last_month_runs demand x l.year l.month (piece.Dates x (Some (last_date.Date l)) ∷ q) (number l.day ∷ ts)
    (years_agree x.year x.month x.day l.year l.month l.day is) (year_of_last x.year x.month x.day l.year l.month l.day is)
    (month_of_last x.year x.month x.day l.year l.month l.day is)
    (fit_completed demand (places.DateDashMonth x l.year l.month) (at_end x (last_date.Date l))
    (piece.Dates x (Some (last_date.Date l))) q (number l.day) ts is refl go)

-- a last date that breaks off
cut_runs : (demand : Demand) (x : WrittenDate) (year : Option Digits) (m : Option ℕ) → may_break_off demand ≡ true
    → is_some x.year ≡ true → IfSome year IsYearNumber → IfSome m IsMonth → Runs demand (places.DateDash x) [] (unfinished year m)
cut_runs demand x None None may some is month = cut (places.DateDash x) [] [] may refl refl refl
cut_runs demand x None (Some m) may some is month =
    last_month_runs demand x None m [] [] (λ e. some) tt month
    (cut (places.DateDashMonth x None m) [] [] may refl refl refl)
cut_runs demand x (Some n) None may some is month =
    last_year_runs demand x n [] [] some is (cut (places.DateDashYear x n) [] [] may refl refl refl)
cut_runs demand x (Some n) (Some m) may some is month =
    last_month_runs demand x (Some n) m [] [] (λ e. some) is month
    (cut (places.DateDashMonth x (Some n) m) [] [] may refl refl refl)

-- ---- what a month or a date begins with

-- a month, a year with a month and a day, or two years with months
pub data DaysBegin (demand : Demand) (p : List Piece) (ts : List TokenKind) : Type 0 where
  by_month : (m : ℕ) → (us : List TokenKind) → ts ≡ token.Month m ∷ us → IsMonth m → Runs demand (places.Month m) p us
      → DaysBegin demand p ts
  by_year : (n : Digits) → (m : ℕ) → (day : Digits) → (us : List TokenKind)
      → ts ≡ number n ∷ token.Month m ∷ number day ∷ us → IsYearNumber n → IsMonth m → IsDay (Some n) m day
      → Runs demand (places.Date (record { year = Some n; month = m; day = day })) p us → DaysBegin demand p ts
  by_years : (a b : Digits) → (m : ℕ) → (us : List TokenKind) → ts ≡ months_to a m b us → IsRange IsYearNumber a b → IsMonth m
      → Runs demand (places.MonthsYear a m b) p us → DaysBegin demand p ts

date_by : (demand : Demand) (y : Option Digits) (m : ℕ) (day : Digits) (p : List Piece) (ts us : List TokenKind)
    → ts ≡ dated y m (number day ∷ us) → IfSome y IsYearNumber → IsDay y m day
    → Runs demand (places.Date (record { year = y; month = m; day = day })) p us → DaysBegin demand p ts
date_by demand None m day p ts us e is fit go =
    by_month m (number day ∷ us) e fit.1.0
    (fit_taken demand (places.Month m) (places.Date (record { year = None; month = m; day = day })) p (number day) us fit refl go)
date_by demand (Some n) m day p ts us e is fit go = by_year n m day us e is fit.1.1.0 fit go

date_begins : (demand : Demand) (x : WrittenDate) (p : List Piece) (ts us : List TokenKind) → ts ≡ date_before x us
    → IsWrittenDate x → Runs demand (places.Date x) p us → DaysBegin demand p ts
date_begins demand x p ts us e is go = date_by demand x.year x.month x.day p ts us e is.0 is.1 go

-- behind what ends the text there is no piece
none_behind : (demand : Demand) (p q : List Piece) (us : List TokenKind) → us ≡ [] → p ≡ q
    → Runs demand (places.After stage.MonthDays) q us → p ≡ []
none_behind demand p q us e f go = f ∙ after_nothing demand stage.MonthDays q us e go

-- ---- what follows a date

-- in which year and month it ends
year_of_day : (z m : ℕ) (day : Digits) → IsDayOfYear z m day → IsYearNumber (record { value = z; count = 4 })
year_of_day z m day is = (refl, omega (arith, ints, is.1.0.0), omega (arith, ints, is.1.0.1))

year_at_end_is : (year : Digits) (x : WrittenDate) (last : LastDate) → x.year ≡ Some year → EndsRange x last
    → IsYearNumber (record { value = year_at_end year.value x last; count = 4 })
year_at_end_is year x (last_date.Day n) e is =
    let ends = subst (λ (y : Option Digits). IsLastDay y x.month x.day None x.month n) e is in
    year_of_day (last_year year.value x.month x.day.value x.month n.value) x.month n ends.0
year_at_end_is year x (last_date.Date l) e is =
    of_last year x l l.year refl (subst (λ (y : Option Digits). IsLastDay y x.month x.day l.year l.month l.day) e is)
  where
    of_last : (year : Digits) (x l : WrittenDate) (written : Option Digits) → l.year ≡ written
        → IsLastDay (Some year) x.month x.day l.year l.month l.day
        → IsYearNumber (record { value = year_at_end year.value x (last_date.Date l); count = 4 })
    of_last year x l None e is =
        let ends = subst (λ (y : Option Digits). IsLastDay (Some year) x.month x.day y l.month l.day) e is in
        subst (λ (y : Option Digits). IsYearNumber (record { value = year_or_next year.value x y l.month l.day; count = 4 }))
        (sym e) (year_of_day (last_year year.value x.month x.day.value l.month l.day.value) l.month l.day ends.0)
    of_last year x l (Some z) e is =
        let ends = subst (λ (y : Option Digits). IsLastDay (Some year) x.month x.day y l.month l.day) e is in
        subst (λ (y : Option Digits). IsYearNumber (record { value = year_or_next year.value x y l.month l.day; count = 4 }))
        (sym e) (refl, ends.0.1, ends.0.2)

pub end_year_is : (x : WrittenDate) (last : Option LastDate) → IsWrittenDate x → AreWrittenDates x last
    → IfSome (end_year x last) IsYearNumber
end_year_is x None is ends = is.0
end_year_is x (Some last) is ends = by_year x.year refl
  where
    by_year : (year : Option Digits) → x.year ≡ year → IfSome (end_year x (Some last)) IsYearNumber
    by_year None e =
        subst (λ (y : Option Digits). IfSome
        (option_map (λ (n : Digits). record { value = year_at_end n.value x last; count = 4 }) y) IsYearNumber) (sym e) tt
    by_year (Some n) e =
        subst (λ (y : Option Digits). IfSome
        (option_map (λ (n : Digits). record { value = year_at_end n.value x last; count = 4 }) y) IsYearNumber) (sym e)
        (year_at_end_is n x last e ends)

month_in : (year : Option Digits) (m : ℕ) (n : Digits) → IsDay year m n → IsMonth m
month_in None m n h = h.1.0
month_in (Some y) m n h = h.1.1.0

pub end_month_is : (x : WrittenDate) (last : Option LastDate) → IsWrittenDate x → AreWrittenDates x last
    → IsMonth (end_month x last)
end_month_is x None is ends = month_in x.year x.month x.day is.1
end_month_is x (Some (last_date.Day n)) is ends = month_in x.year x.month x.day is.1
end_month_is x (Some (last_date.Date l)) is ends = month_of_last x.year x.month x.day l.year l.month l.day ends

-- a day has two digits at most
short : (year : Option Digits) (m : ℕ) (n : Digits) → IsDay year m n → n.count ≤ 2
short None m n h = h.0.1
short (Some y) m n h = h.0.1

-- runs from behind a date, and from behind a day of a list
record DateRuns (demand : Demand) (x : WrittenDate) (p : List Piece) (ts : List TokenKind) : Type 0 where
  date : Runs demand (places.Date x) p ts
  listed : Runs demand (places.ListedDay x) p ts

dash_runs : (demand : Demand) (x : WrittenDate) (p q : List Piece) (ts us : List TokenKind) → ts ≡ token.Dash ∷ us → p ≡ q
    → Runs demand (places.DateDash x) q us → DateRuns demand x p ts
dash_runs demand x p q ts us e f go = record {
  date = renamed demand (places.Date x) p q ts (token.Dash ∷ us) f e
      (sign_taken demand (places.Date x) (places.DateDash x) q token.Dash us (λ x. x) refl go);
  listed = renamed demand (places.ListedDay x) p q ts (token.Dash ∷ us) f e
      (sign_taken demand (places.ListedDay x) (places.DateDash x) q token.Dash us (λ x. x) refl go);
}

range_runs : (demand : Demand) (x : WrittenDate) (last : Option LastDate) (p q : List Piece) (ts us : List TokenKind)
    → ts ≡ range_to last us → p ≡ piece.Dates x last ∷ q → AreWrittenDates x last
    → Runs demand (places.AfterDate (end_year x last) (end_month x last)) q us → DateRuns demand x p ts
range_runs demand x None p q ts us e f ends go = record {
  date = renamed demand (places.Date x) p (piece.Dates x None ∷ q) ts us f e (date_given demand x q us go);
  listed = renamed demand (places.ListedDay x) p (piece.Dates x None ∷ q) ts us f e (day_given demand x q us go);
}
range_runs demand x (Some last) p q ts us e f ends go =
    dash_runs demand x p (piece.Dates x (Some last) ∷ q) ts (last_before last us) e f (last_runs demand x last q us ends go)

dates_run : (demand : Demand) (q : List Piece) (us : List TokenKind) (x : WrittenDate) (p : List Piece) (ts : List TokenKind)
    → IsWrittenDate x → IsDates demand q us x p ts → Runs demand (places.After stage.MonthDays) q us → DateRuns demand x p ts
dates_run demand q us x p ts is (IsDates.one y last o vs e f ends) go =
    range_runs demand x last p q ts us e f ends
    (after_date_runs demand (end_year x last) (end_month x last) q us (end_year_is x last is ends)
    (end_month_is x last is ends) go)
dates_run demand q us x p ts is (IsDates.also y last n o r vs ws e f ends day more) go =
    let next = dates_run demand q us (day_behind x last n) r ws (end_year_is x last is ends, day) more go in
    range_runs demand x last p r ts (token.Comma ∷ number n ∷ ws) e f ends
    (listed_day_runs demand (end_year x last) (end_month x last) n r ws (short (end_year x last) (end_month x last) n day) day
    next.listed)
dates_run demand q us x p ts is (IsDates.cut y year m o vs may some z l e f g) go =
    dash_runs demand x p [] ts (unfinished year m) e (none_behind demand p q us f g go)
    (cut_runs demand x year m may some z l)
dates_run demand q us x p ts is (IsDates.any_day y l o vs by some z month e f g) go =
    dash_runs demand x p [] ts (date_before l []) e (none_behind demand p q us f g go)
    (last_month_runs demand x l.year l.month [] (number l.day ∷ []) (λ e. some) z month
    (any_last (places.DateDashMonth x l.year l.month) [] (number l.day ∷ []) (number l.day) (ap may_judge by)
    (ap (is_judged (places.DateDashMonth x l.year l.month) (number l.day)) by) refl refl))

pub days_begin : (demand : Demand) (p q : List Piece) (ts us : List TokenKind) → IsMonthDays demand p ts q us
    → Runs demand (places.After stage.MonthDays) q us → DaysBegin demand p ts
days_begin demand p q ts us (IsMonthDays.month m e f is) go =
    by_month m us e is (renamed demand (places.Month m) p (piece.Months m None ∷ q) us us f refl (month_given demand m q us go))
days_begin demand p q ts us (IsMonthDays.months a b e f is also) go =
    by_month a (token.Dash ∷ token.Month b ∷ us) e is
    (sign_taken demand (places.Month a) (places.MonthDash a) p token.Dash (token.Month b ∷ us) (λ x. x) refl
    (renamed demand (places.MonthDash a) p (piece.Months a (Some b) ∷ q) (token.Month b ∷ us) (token.Month b ∷ us) f refl
    (fit_completed demand (places.MonthDash a) (places.After stage.MonthDays) (piece.Months a (Some b)) q (token.Month b) us also
    refl
    go)))
days_begin demand p q ts us (IsMonthDays.dates x vs e is dates) go =
    date_begins demand x p ts vs e is (dates_run demand q us x p vs is dates go).date
days_begin demand p q ts us (IsMonthDays.of_years a b m l e f range month are) go =
    by_years a b m (token.Month l ∷ us) e range month
    (renamed demand (places.MonthsYear a m b) p (days_of_months a m b l ∷ q) (token.Month l ∷ us) (token.Month l ∷ us) f refl
    (fit_completed demand (places.MonthsYear a m b) (places.After stage.MonthDays) (days_of_months a m b l) q (token.Month l) us
    are refl go))
days_begin demand p q ts us (IsMonthDays.cut a b m may range month e f g) go =
    by_years a b m [] e range month
    (cut (places.MonthsYear a m b) p [] may refl (none_behind demand p q us f g go) refl)
days_begin demand p q ts us (IsMonthDays.any_month a b m l by range month e f g) go =
    by_years a b m (token.Month l ∷ []) e range month
    (any_last (places.MonthsYear a m b) p (token.Month l ∷ []) (token.Month l) (ap may_judge by)
    (ap (is_judged (places.MonthsYear a m b) (token.Month l)) by) (none_behind demand p q us f g go) refl)

-- ---- lists

-- months of years, where the first year stands for them
pub years_runs : (demand : Demand) (a b : Digits) (m : ℕ) (p : List Piece) (us : List TokenKind) → IsRange IsYearNumber a b
    → IsMonth m → Runs demand (places.MonthsYear a m b) p us
    → Runs demand (places.DateYear a) p (token.Month m ∷ token.Dash ∷ number b ∷ us)
years_runs demand a b m p us range month go =
    fit_taken demand (places.DateYear a) (places.DateYearMonth a m) p (token.Month m) (token.Dash ∷ number b ∷ us) month refl
    (sign_taken demand (places.DateYearMonth a m) (places.DateYearMonthDash a m) p token.Dash (number b ∷ us) (λ x. x) refl
    (fit_taken demand (places.DateYearMonthDash a m) (places.MonthsYear a m b) p (number b) us range refl go))

-- and at the beginning of a rule
pub first_years_runs : (demand : Demand) (a b : Digits) (m : ℕ) (p : List Piece) (us : List TokenKind) → IsRange IsYearNumber a b
    → IsMonth m → Runs demand (places.MonthsYear a m b) p us
    → Runs demand (places.Year a) p (token.Month m ∷ token.Dash ∷ number b ∷ us)
first_years_runs demand a b m p us range month go =
    fit_taken demand (places.Year a) (places.YearMonth a m) p (token.Month m) (token.Dash ∷ number b ∷ us) month refl
    (sign_taken demand (places.YearMonth a m) (places.YearMonthDash a m) p token.Dash (number b ∷ us) (λ x. x) refl
    (fit_taken demand (places.YearMonthDash a m) (places.MonthsYear a m b) p (number b) us range refl go))

-- a year, a month and a day, where the year stands for a date
pub year_runs : (demand : Demand) (n : Digits) (m : ℕ) (day : Digits) (p : List Piece) (us : List TokenKind) → IsMonth m
    → IsDay (Some n) m day → Runs demand (places.Date (record { year = Some n; month = m; day = day })) p us
    → Runs demand (places.DateYear n) p (token.Month m ∷ number day ∷ us)
year_runs demand n m day p us month fit go =
    fit_taken demand (places.DateYear n) (places.DateYearMonth n m) p (token.Month m) (number day ∷ us) month refl
    (fit_taken demand (places.DateYearMonth n m) (places.Date (record { year = Some n; month = m; day = day })) p (number day) us
    fit
    refl go)

-- and at the beginning of a rule
pub first_year_runs : (demand : Demand) (n : Digits) (m : ℕ) (day : Digits) (p : List Piece) (us : List TokenKind) → IsMonth m
    → IsDay (Some n) m day → Runs demand (places.Date (record { year = Some n; month = m; day = day })) p us
    → Runs demand (places.Year n) p (token.Month m ∷ number day ∷ us)
first_year_runs demand n m day p us month fit go =
    fit_taken demand (places.Year n) (places.YearMonth n m) p (token.Month m) (number day ∷ us) month refl
    (fit_taken demand (places.YearMonth n m) (places.Date (record { year = Some n; month = m; day = day })) p (number day) us fit
    refl go)

next_begin : (demand : Demand) (p : List Piece) (ts : List TokenKind) → DaysBegin demand p ts
    → Runs demand (places.Comma stage.MonthDays) p ts
next_begin demand p ts (by_month m us e is go) =
    subst (Runs demand (places.Comma stage.MonthDays) p) (sym e)
    (fit_taken demand (places.Comma stage.MonthDays) (places.Month m) p (token.Month m) us is refl go)
next_begin demand p ts (by_year n m day us e is month fit go) =
    subst (Runs demand (places.Comma stage.MonthDays) p) (sym e)
    (fit_taken demand (places.Comma stage.MonthDays) (places.DateYear n) p (number n) (token.Month m ∷ number day ∷ us) is
    (goes_on_if (n.count == 4) (take (places.DateYear n)) (give (piece.Rule link.Also) places.Front) (eq-eqb n.count 4 is.0))
    (year_runs demand n m day p us month fit go))
next_begin demand p ts (by_years a b m us e range month go) =
    subst (Runs demand (places.Comma stage.MonthDays) p) (sym e)
    (fit_taken demand (places.Comma stage.MonthDays) (places.DateYear a) p (number a)
    (token.Month m ∷ token.Dash ∷ number b ∷ us) range.0
    (goes_on_if (a.count == 4) (take (places.DateYear a)) (give (piece.Rule link.Also) places.Front) (eq-eqb a.count 4 range.0.0))
    (years_runs demand a b m p us range month go))

next_days : (demand : Demand) (p q : List Piece) (ts us : List TokenKind) → IsMonthDays demand p ts q us
    → Runs demand (places.After stage.MonthDays) q us → Runs demand (places.Comma stage.MonthDays) p ts
next_days demand p q ts us is go = next_begin demand p ts (days_begin demand p q ts us is go)

-- a list of months and dates
pub days_run : (demand : Demand) (p later : List Piece) (ts rest : List TokenKind) → Listed (IsMonthDays demand) p ts later rest
    → Runs demand (places.After stage.MonthDays) later rest → DaysBegin demand p ts
days_run demand p later ts rest l go =
    days_begin demand p l.q ts l.us l.one
    (more_runs demand (IsMonthDays demand) (places.After stage.MonthDays) (places.Comma stage.MonthDays) (next_days demand)
    (comma_runs demand stage.MonthDays) later rest l.q l.us l.more go)
