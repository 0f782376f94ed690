-- What the grammar says of a text, the moves run over.
use Rattle.std.proofs.Common.{◌≡◌, ℕ, Bool, true, false, List, [], ◌∷◌, Some, refl, sym, ap, subst, ◌∙◌, arith}
use Rattle.std.specs.Prelude.{if◌then◌else◌}
use Rattle.gtd_hours.specs.Ranges.{IsMonth}
use Rattle.gtd_hours.specs.declared.hours.Link.TheVariants as link
use Rattle.gtd_hours_tokens.specs.declared.token.TokenKind.TheVariants as token
use Rattle.gtd_hours_parts.specs.declared.clock.ClockTime.{ClockTime}
use Rattle.gtd_hours_parts.specs.Times.{IsBegin}
use Rattle.gtd_hours_moves.specs.Terms.{TokenKind, Piece, Stage, Place}
use Rattle.gtd_hours_parts.specs.declared.piece.Piece.TheVariants as piece
use Rattle.gtd_hours_moves.specs.declared.stage.Stage.TheVariants as stage
use Rattle.gtd_hours_moves.specs.declared.place.Place.TheVariants as places
use Rattle.gtd_hours_moves.specs.Grammar.{Demand, Follow, list_goes_on, number, precedes, time}
use Rattle.gtd_hours_moves.specs.Sound.{MonthFits, TimeFits}
use Rattle.gtd_hours_moves.specs.Moves.{complete, give, listed, next_goes_on, next_move, take, when, written}
use Rattle.gtd_hours_moves.specs.Runs.{Runs, first}
use Rattle.gtd_hours_moves.specs.Runs.Runs.{ends}
use Rattle.gtd_hours_moves.specs.facts.RunSteps.{fit_taken, fit_completed, sign_taken, sign_completed}
use Rattle.gtd_hours_moves.specs.facts.FollowBits.{begin_bit, listed_bit, month_bit, next_bit}
use Rattle.gtd_hours_moves.specs.facts.FollowSteps.{comma_runs, given_by, renamed}
use Rattle.gtd_hours_moves.specs.facts.FollowWeeks.{weeks_run}
use Rattle.gtd_hours_moves.specs.facts.FollowYears.{no_twenty_four, years_run}
use Rattle.gtd_hours_moves.specs.facts.FollowWeekdays.{TimeBegins, WeekdayBegins, times_run, weekdays_run}
use Rattle.gtd_hours_moves.specs.facts.FollowDates.{DaysBegin, days_run, first_year_runs, first_years_runs, year_runs}
use Rattle.gtd_hours_moves.specs.facts.FollowDates.{years_runs}
use Rattle.gtd_hours_moves.specs.facts.FollowDates.DaysBegin.{by_month, by_year, by_years}

-- where a rule stands that has come to a stage
abbrev pub at_stage : Stage → Place
at_stage stage.Front = places.Front
at_stage s = places.After s

after_stage : (s : Stage) → precedes stage.Front s ≡ true → at_stage s ≡ places.After s
after_stage stage.Front e = absurd cc
after_stage s e = refl

-- ---- parts of a rule that can stand first in it

month_move : (s : Stage) (m : ℕ) → precedes s stage.MonthDays ≡ true
    → next_move (at_stage s) (Some (token.Month m)) true ≡ complete piece.Kind (places.Month m)
month_move stage.Front m e = refl
month_move s m e = ap (λ (b : Bool). when b (complete piece.Kind (places.Month m))) e

weekday_move : (s : Stage) (k : ℕ) → precedes s stage.Weekdays ≡ true
    → next_move (at_stage s) (Some (token.Weekday k)) true ≡ complete piece.Kind (places.Weekday k)
weekday_move stage.Front k e = refl
weekday_move s k e = ap (λ (b : Bool). when b (complete piece.Kind (places.Weekday k))) e

week_move : (s : Stage) → precedes s stage.Weeks ≡ true
    → next_move (at_stage s) (Some token.Week) false ≡ complete piece.Kind places.WeekWord
week_move stage.Front e = refl
week_move s e = ap (λ (b : Bool). when b (complete piece.Kind places.WeekWord)) e

time_move : (s : Stage) (t : ClockTime) → precedes s stage.Times ≡ true
    → next_move (at_stage s) (Some (time t)) true ≡ take (places.Time t)
time_move stage.Front t e = refl
time_move s t e = ap (λ (b : Bool). when b (take (places.Time t))) e

month_fits : (s : Stage) (m : ℕ) → IsMonth m → MonthFits (at_stage s) m
month_fits stage.Front m is = is
month_fits s m is = is

time_fits : (s : Stage) (t : ClockTime) → IsBegin t → TimeFits (at_stage s) t
time_fits stage.Front t is = is
time_fits s t is = is

open_move : (s : Stage) → precedes s stage.Modifier ≡ true
    → next_move (at_stage s) (Some token.Open) false ≡ take (places.After stage.Modifier)
open_move stage.Front e = refl
open_move s e = ap (λ (b : Bool). when b (take (places.After stage.Modifier))) e

closed_move : (s : Stage) → precedes s stage.Modifier ≡ true
    → next_move (at_stage s) (Some token.Closed) false ≡ complete piece.Closed (places.After stage.Modifier)
closed_move stage.Front e = refl
closed_move s e = ap (λ (b : Bool). when b (complete piece.Closed (places.After stage.Modifier))) e

days_at : (demand : Demand) (s : Stage) (p : List Piece) (ts : List TokenKind) → precedes s stage.MonthDays ≡ true
    → DaysBegin demand p ts → Runs demand (at_stage s) (piece.Kind ∷ p) ts
days_at demand s p ts e (by_month m us f is go) =
    subst (Runs demand (at_stage s) (piece.Kind ∷ p)) (sym f)
    (fit_completed demand (at_stage s) (places.Month m) piece.Kind p (token.Month m) us (month_fits s m is)
    (month_move s m e) go)
days_at demand stage.Front p ts e (by_year n m day us f is month fit go) =
    subst (Runs demand places.Front (piece.Kind ∷ p)) (sym f)
    (fit_completed demand places.Front (places.Year n) piece.Kind p (number n) (token.Month m ∷ number day ∷ us) is
    (no_twenty_four n.value n.count (take places.TwentyFour) (complete piece.Kind (places.Year n)) is.0)
    (first_year_runs demand n m day p us month fit go))
days_at demand s p ts e (by_year n m day us f is month fit go) =
    subst (Runs demand (at_stage s) (piece.Kind ∷ p)) (sym f)
    (fit_completed demand (places.After s) (places.DateYear n) piece.Kind p (number n) (token.Month m ∷ number day ∷ us) is
    (ap (λ (b : Bool). when b (complete piece.Kind (places.DateYear n))) e) (year_runs demand n m day p us month fit go))
days_at demand stage.Front p ts e (by_years a b m us f range month go) =
    subst (Runs demand places.Front (piece.Kind ∷ p)) (sym f)
    (fit_completed demand places.Front (places.Year a) piece.Kind p (number a)
    (token.Month m ∷ token.Dash ∷ number b ∷ us) range.0
    (no_twenty_four a.value a.count (take places.TwentyFour) (complete piece.Kind (places.Year a)) range.0.0)
    (first_years_runs demand a b m p us range month go))
days_at demand s p ts e (by_years a b m us f range month go) =
    subst (Runs demand (at_stage s) (piece.Kind ∷ p)) (sym f)
    (fit_completed demand (places.After s) (places.DateYear a) piece.Kind p (number a)
    (token.Month m ∷ token.Dash ∷ number b ∷ us) range.0
    (ap (λ (b : Bool). when b (complete piece.Kind (places.DateYear a))) e) (years_runs demand a b m p us range month go))

weekdays_at : (demand : Demand) (s : Stage) (p : List Piece) (ts : List TokenKind) → precedes s stage.Weekdays ≡ true
    → WeekdayBegins demand p ts → Runs demand (at_stage s) (piece.Kind ∷ p) ts
weekdays_at demand s p ts e b =
    subst (Runs demand (at_stage s) (piece.Kind ∷ p)) (sym b.tokens)
    (fit_completed demand (at_stage s) (places.Weekday b.k) piece.Kind p (token.Weekday b.k) b.us b.is (weekday_move s b.k e)
    b.runs)

times_at : (demand : Demand) (s : Stage) (p : List Piece) (ts : List TokenKind) → precedes s stage.Times ≡ true
    → TimeBegins demand p ts → Runs demand (at_stage s) p ts
times_at demand s p ts e b =
    subst (Runs demand (at_stage s) p) (sym b.tokens)
    (fit_taken demand (at_stage s) (places.Time b.t) p (time b.t) b.us (time_fits s b.t b.is) (time_move s b.t e) b.runs)

-- `24/7`
always_runs : (demand : Demand) (p : List Piece) (us : List TokenKind) → Runs demand (places.After stage.Always) p us
    → Runs demand places.Front p (token.Number 24 2 ∷ token.Slash ∷ token.Number 7 1 ∷ us)
always_runs demand p us go =
    sign_taken demand places.Front places.TwentyFour p (token.Number 24 2) (token.Slash ∷ token.Number 7 1 ∷ us)
    (λ x. omega (arith, x.0)) refl
    (sign_taken demand places.TwentyFour places.TwentyFourSlash p token.Slash (token.Number 7 1 ∷ us) (λ x. x) refl
    (fit_taken demand places.TwentyFourSlash (places.After stage.Always) p (token.Number 7 1) us (refl, refl) refl go))

-- the same years, however the stage is called
years_at : (demand : Demand) (s : Stage) (p : List Piece) (ts : List TokenKind) → precedes s stage.Years ≡ true
    → Runs demand places.Front p ts → Runs demand (at_stage s) p ts
years_at demand stage.Front p ts e go = go
years_at demand s p ts e go = absurd cc

-- ---- another rule

same_next : (s : Stage) (us : List TokenKind) → next_goes_on s (first us) ≡ list_goes_on s us
same_next s [] = refl
same_next s (t ∷ us) = refl

also_runs : (demand : Demand) (s : Stage) (p : List Piece) (us : List TokenKind) → list_goes_on s us ≡ false
    → Runs demand places.Front p us → Runs demand (places.After s) (piece.Rule link.Also ∷ p) (token.Comma ∷ us)
also_runs demand s p us e go =
    comma_runs demand s (piece.Rule link.Also ∷ p) us
    (given_by demand (places.Comma s) places.Front (piece.Rule link.Also) p us
    (next_bit (places.Comma s) (first us) (λ v d same. listed_bit s (written v d)) begin_bit month_bit)
    (λ fits. ap (λ (b : Bool). if b then listed s (first us) fits else give (piece.Rule link.Also) places.Front)
    (same_next s us ∙ e)) go)

-- ---- the whole grammar

-- a run from behind a part of a rule
behind : (demand : Demand) (s : Stage) (p q : List Piece) (ts us : List TokenKind) → precedes stage.Front s ≡ true → p ≡ q
    → ts ≡ us → Runs demand (places.After s) q us → Runs demand (at_stage s) p ts
behind demand s p q ts us e f g go =
    subst (λ (at : Place). Runs demand at p ts) (sym (after_stage s e)) (renamed demand (places.After s) p q ts us f g go)

pub runs_on : (demand : Demand) (s : Stage) (p : List Piece) (ts : List TokenKind) → Follow demand s p ts
    → Runs demand (at_stage s) p ts
runs_on demand s p ts (Follow.always s' p' ts' us e f g) =
    subst (λ (x : Stage). Runs demand (at_stage x) p ts) (sym e)
    (subst (Runs demand places.Front p) (sym f) (always_runs demand p us (runs_on demand stage.Always p us g)))
runs_on demand s p ts (Follow.years s' p' q later ts' rest e no_date f l g) =
    years_at demand s p ts e
    (renamed demand places.Front p (piece.Kind ∷ q) ts ts f refl
    (years_run demand q later ts rest no_date l (runs_on demand stage.Years later rest g)))
runs_on demand s p ts (Follow.month_days s' p' q later ts' rest e f l g) =
    renamed demand (at_stage s) p (piece.Kind ∷ q) ts ts f refl
    (days_at demand s q ts e (days_run demand q later ts rest l (runs_on demand stage.MonthDays later rest g)))
runs_on demand s p ts (Follow.weeks s' p' q later ts' us rest e k f l g) =
    renamed demand (at_stage s) p (piece.Kind ∷ q) ts (token.Week ∷ us) f k
    (sign_completed demand (at_stage s) places.WeekWord piece.Kind q token.Week us (λ x. x) (week_move s e)
    (weeks_run demand q later us rest l (runs_on demand stage.Weeks later rest g)))
runs_on demand s p ts (Follow.colon s' p' ts' us e h k g) =
    behind demand s p p ts (token.Colon ∷ us) e refl k
    (sign_taken demand (places.After s) (places.After stage.Colon) p token.Colon us (λ x. x)
    (ap (λ (b : Bool). when b (take (places.After stage.Colon))) h) (runs_on demand stage.Colon p us g))
runs_on demand s p ts (Follow.weekdays s' p' q later ts' rest e f l g) =
    renamed demand (at_stage s) p (piece.Kind ∷ q) ts ts f refl
    (weekdays_at demand s q ts e (weekdays_run demand q later ts rest l (runs_on demand stage.Weekdays later rest g)))
runs_on demand s p ts (Follow.times s' p' later ts' rest e l g) =
    times_at demand s p ts e (times_run demand p later ts rest l (runs_on demand stage.Times later rest g))
runs_on demand s p ts (Follow.opens s' p' ts' us e k g) =
    renamed demand (at_stage s) p p ts (token.Open ∷ us) refl k
    (sign_taken demand (at_stage s) (places.After stage.Modifier) p token.Open us (λ x. x) (open_move s e)
    (runs_on demand stage.Modifier p us g))
runs_on demand s p ts (Follow.closes s' p' q ts' us e k f g) =
    renamed demand (at_stage s) p (piece.Closed ∷ q) ts (token.Closed ∷ us) f k
    (sign_completed demand (at_stage s) (places.After stage.Modifier) piece.Closed q token.Closed us (λ x. x) (closed_move s e)
    (runs_on demand stage.Modifier q us g))
runs_on demand s p ts (Follow.ends s' p' ts' e f k) =
    behind demand s p [] ts [] e f k (ends (places.After s) [] [] refl refl refl)
runs_on demand s p ts (Follow.instead s' p' q ts' us e k f g) =
    behind demand s p (piece.Rule link.Instead ∷ q) ts (token.Semicolon ∷ us) e f k
    (sign_completed demand (places.After s) places.Front (piece.Rule link.Instead) q token.Semicolon us (λ x. x) refl
    (runs_on demand stage.Front q us g))
runs_on demand s p ts (Follow.also s' p' q ts' us e k n f g) =
    behind demand s p (piece.Rule link.Also ∷ q) ts (token.Comma ∷ us) e f k
    (also_runs demand s q us n (runs_on demand stage.Front q us g))

-- what is a text by the grammar, the moves run over
pub follow_runs : (demand : Demand) (p : List Piece) (ts : List TokenKind) → Follow demand stage.Front p ts
    → Runs demand places.Front p ts
follow_runs demand p ts f = runs_on demand stage.Front p ts f
