-- The run over a list of years.
use Rattle.std.proofs.Common.{◌≡◌, ℕ, Bool, true, false, List, [], ◌∷◌, Option, Some, None, refl, sym, ap, subst, ◌∙◌}
use Rattle.std.specs.Prelude.{◌==◌, ◌&&◌, nat_le, if◌then◌else◌}
use Rattle.std.proofs.lemmas.Bool.{eq-eqb, le-leb}
use Rattle.gtd_hours.specs.Ranges.{IsMonth}
use Rattle.gtd_hours.specs.declared.hours.Link.TheVariants as link
use Rattle.gtd_hours_tokens.specs.declared.token.TokenKind.TheVariants as token
use Rattle.gtd_hours_parts.specs.declared.digits.Digits.{Digits}
use Rattle.gtd_hours_parts.specs.Numbers.{IsStepNumber, IsYearNumber}
use Rattle.gtd_hours_moves.specs.Terms.{TokenKind, Piece, Place, Move}
use Rattle.gtd_hours_parts.specs.declared.piece.Piece.TheVariants as piece
use Rattle.gtd_hours_moves.specs.declared.stage.Stage.TheVariants as stage
use Rattle.gtd_hours_moves.specs.declared.place.Place.TheVariants as places
use Rattle.gtd_hours_moves.specs.Grammar.{Demand, IsYears, Listed, begins_with_date, number}
use Rattle.gtd_hours_moves.specs.Moves.{complete, give, next_move, take, when}
use Rattle.gtd_hours_moves.specs.Runs.{Runs, first, is_judged, is_step, left, may_judge, with_piece}
use Rattle.gtd_hours_moves.specs.Runs.Runs.{ends, cut, any_last, step}
use Rattle.gtd_hours_parts.specs.Pieces.{AreFewYears, IsRange, final_year}
use Rattle.gtd_hours_moves.specs.Sound.{Fits}
use Rattle.gtd_hours_moves.specs.facts.RunSteps.{fit_taken, fit_completed, sign_completed, sign_taken, no_token, not_fit}
use Rattle.gtd_hours_moves.specs.facts.FollowBits.{begin_bit, month_bit, next_bit, no_bit}
use Rattle.gtd_hours_moves.specs.facts.FollowDays.{behind_token}
use Rattle.gtd_hours_moves.specs.facts.FollowSteps.{Begins, after_nothing, comma_runs, given_by, more_runs, renamed}

-- ---- a year that is given

listed_given : (demand : Demand) (n : Digits) (q : List Piece) (ts : List TokenKind) → Runs demand (places.After stage.Years) q ts
    → Runs demand (places.ListedYear n) (piece.Years n None None ∷ q) ts
listed_given demand n q (token.Dash ∷ ts) go =
    absurd (no_token demand (places.After stage.Years) q token.Dash ts refl (λ fits. refl) go)
listed_given demand n q (token.Slash ∷ ts) go =
    absurd (no_token demand (places.After stage.Years) q token.Slash ts refl (λ fits. refl) go)
listed_given demand n q (token.Plus ∷ ts) go =
    absurd (no_token demand (places.After stage.Years) q token.Plus ts refl (λ fits. refl) go)
listed_given demand n q [] go =
    given_by demand (places.ListedYear n) (places.After stage.Years) (piece.Years n None None) q [] (no_bit ⊥ (λ x. x))
    (λ fits. refl) go
listed_given demand n q (t ∷ ts) go =
    given_by demand (places.ListedYear n) (places.After stage.Years) (piece.Years n None None) q (t ∷ ts)
    (next_bit (places.ListedYear n) (Some t) (λ v d e. no_bit ⊥ (λ x. x)) begin_bit month_bit) (λ fits. refl) go

-- the month behind a list of years
record MonthBehind (demand : Demand) (m : ℕ) (p : List Piece) (ts : List TokenKind) : Type 0 where
  is : IsMonth m
  q : List Piece
  pieces : p ≡ piece.Kind ∷ q
  runs : Runs demand (places.Month m) q ts

month_by : (demand : Demand) (m : ℕ) (p q : List Piece) (ts : List TokenKind) (move : Move) (fits : Bool)
    → (fits ≡ true → IsMonth m) → when (fits && true) (complete piece.Kind (places.Month m)) ≡ Some move
    → p ≡ with_piece move.piece q → Runs demand move.to q (left move.takes (token.Month m ∷ ts)) → MonthBehind demand m p ts
month_by demand m p q ts move true is e f go =
    let month : Move = record { to = places.Month m; piece = Some piece.Kind; takes = true } in
    let same : move ≡ month = cc in
    record {
      is = is refl;
      q = q;
      pieces = f ∙ ap (λ (w : Move). with_piece w.piece q) same;
      runs = subst (λ (w : Move). Runs demand w.to q (left w.takes (token.Month m ∷ ts))) same go;
    }
month_by demand m p q ts move false is e f go = absurd cc

month_behind : (demand : Demand) (m : ℕ) (p : List Piece) (ts : List TokenKind)
    → Runs demand (places.After stage.Years) p (token.Month m ∷ ts) → MonthBehind demand m p ts
month_behind demand m p ts (ends at p' ts' after e f) = absurd cc
month_behind demand m p ts (cut at p' ts' may is e f) = absurd cc
month_behind demand m p ts (any_last at p' ts' l by day e f) = absurd cc
month_behind demand m p ts (step at p' q ts' move fits is e f go) = month_by demand m p q ts move fits is.0 e f go

-- the month that is no date's
month_after : (demand : Demand) (n : Digits) (m : ℕ) (q : List Piece) (ts : List TokenKind) → Runs demand (places.Month m) q ts
    → Runs demand (places.MonthAfterYear m) (piece.Kind ∷ q) ts
month_after demand n m q ts go =
    given_by demand (places.MonthAfterYear m) (places.Month m) piece.Kind q ts
    (next_bit (places.MonthAfterYear m) (first ts) (λ v d e. no_bit ⊥ (λ x. x)) begin_bit month_bit) (λ fits. refl) go

-- a text does not end behind the dash of months
no_end : (demand : Demand) (m : ℕ) (q : List Piece) → Runs demand (places.MonthDash m) q [] → ⊥
no_end demand m q (ends at p' ts' after e f) = absurd cc
no_end demand m q (cut at p' ts' may is e f) = absurd cc
no_end demand m q (any_last at p' ts' l by day e f) = absurd cc
no_end demand m q (step at p' q' ts' move fits is e f go) = absurd cc

-- the dash behind it
dash_given : (demand : Demand) (n : Digits) (m : ℕ) (q : List Piece) (ts : List TokenKind)
    → begins_with_date (number n ∷ token.Month m ∷ token.Dash ∷ ts) ≡ false → Runs demand (places.MonthDash m) q ts
    → Runs demand (places.YearMonthDash n m) (piece.Years n None None ∷ piece.Kind ∷ q) ts
dash_given demand n m q (token.Month l ∷ ts) no_date go =
    given_by demand (places.YearMonthDash n m) (places.MonthDashAfterYear m) (piece.Years n None None) (piece.Kind ∷ q)
    (token.Month l ∷ ts) (month_bit l) (λ fits. refl)
    (given_by demand (places.MonthDashAfterYear m) (places.MonthDash m) piece.Kind q (token.Month l ∷ ts) (month_bit l)
    (λ fits. refl) go)
dash_given demand n m q (token.Number v d ∷ ts) no_date go = absurd cc
dash_given demand n m q [] no_date go = absurd (no_end demand m q go)
dash_given demand n m q (t ∷ ts) no_date go =
    absurd (no_token demand (places.MonthDash m) q t ts refl (λ fits. refl) go)

month_given : (demand : Demand) (n : Digits) (m : ℕ) (q : List Piece) (ts : List TokenKind)
    → begins_with_date (number n ∷ token.Month m ∷ ts) ≡ false → Runs demand (places.Month m) q ts
    → Runs demand (places.YearMonth n m) (piece.Years n None None ∷ piece.Kind ∷ q) ts
month_given demand n m q (token.Number v d ∷ ts) no_date go = absurd cc
month_given demand n m q (token.Dash ∷ ts) no_date go =
    sign_taken demand (places.YearMonth n m) (places.YearMonthDash n m) (piece.Years n None None ∷ piece.Kind ∷ q) token.Dash ts
    (λ x. x) refl (dash_given demand n m q ts no_date
    (behind_token demand (places.Month m) (places.MonthDash m) q token.Dash ts refl (λ fits. refl) go))
month_given demand n m q [] no_date go =
    given_by demand (places.YearMonth n m) (places.MonthAfterYear m) (piece.Years n None None) (piece.Kind ∷ q) []
    (no_bit ⊥ (λ x. x)) (λ fits. refl) (month_after demand n m q [] go)
month_given demand n m q (t ∷ ts) no_date go =
    given_by demand (places.YearMonth n m) (places.MonthAfterYear m) (piece.Years n None None) (piece.Kind ∷ q) (t ∷ ts)
    (next_bit (places.YearMonth n m) (Some t) (λ v d e. absurd cc) begin_bit month_bit) (λ fits. refl)
    (month_after demand n m q (t ∷ ts) go)

-- a single year, at the beginning of a rule
year_given : (demand : Demand) (n : Digits) (q : List Piece) (ts : List TokenKind) → begins_with_date (number n ∷ ts) ≡ false
    → Runs demand (places.After stage.Years) q ts → Runs demand (places.Year n) (piece.Years n None None ∷ q) ts
year_given demand n q (token.Dash ∷ ts) no_date go =
    absurd (no_token demand (places.After stage.Years) q token.Dash ts refl (λ fits. refl) go)
year_given demand n q (token.Slash ∷ ts) no_date go =
    absurd (no_token demand (places.After stage.Years) q token.Slash ts refl (λ fits. refl) go)
year_given demand n q (token.Plus ∷ ts) no_date go =
    absurd (no_token demand (places.After stage.Years) q token.Plus ts refl (λ fits. refl) go)
year_given demand n q (token.Month m ∷ ts) no_date go =
    let b = month_behind demand m q ts go in
    subst (λ (l : List Piece). Runs demand (places.Year n) (piece.Years n None None ∷ l) (token.Month m ∷ ts)) (sym b.pieces)
    (fit_taken demand (places.Year n) (places.YearMonth n m) (piece.Years n None None ∷ piece.Kind ∷ b.q) (token.Month m) ts b.is
    refl (month_given demand n m b.q ts no_date b.runs))
year_given demand n q [] no_date go =
    given_by demand (places.Year n) (places.After stage.Years) (piece.Years n None None) q [] (no_bit ⊥ (λ x. x))
    (λ fits. refl) go
year_given demand n q (t ∷ ts) no_date go =
    given_by demand (places.Year n) (places.After stage.Years) (piece.Years n None None) q (t ∷ ts)
    (next_bit (places.Year n) (Some t) (λ v d e. no_bit ⊥ (λ x. x)) begin_bit month_bit) (λ fits. refl) go

-- ---- ranges of years

range_given : (demand : Demand) (a b : Digits) (q : List Piece) (ts : List TokenKind)
    → Runs demand (places.After stage.Years) q ts
    → Runs demand (places.YearRange a b) (piece.Years a (Some b) None ∷ q) ts
range_given demand a b q (token.Slash ∷ ts) go =
    absurd (no_token demand (places.After stage.Years) q token.Slash ts refl (λ fits. refl) go)
range_given demand a b q [] go =
    given_by demand (places.YearRange a b) (places.After stage.Years) (piece.Years a (Some b) None) q [] (no_bit ⊥ (λ x. x))
    (λ fits. refl) go
range_given demand a b q (t ∷ ts) go =
    given_by demand (places.YearRange a b) (places.After stage.Years) (piece.Years a (Some b) None) q (t ∷ ts)
    (next_bit (places.YearRange a b) (Some t) (λ v d e. no_bit ⊥ (λ x. x)) begin_bit month_bit) (λ fits. refl) go

-- the last year of a range
to_range : (demand : Demand) (a b : Digits) (p : List Piece) (ts : List TokenKind) → IsRange IsYearNumber a b
    → Runs demand (places.YearRange a b) p ts → Runs demand (places.YearDash a) p (number b ∷ ts)
to_range demand a b p ts is go = fit_taken demand (places.YearDash a) (places.YearRange a b) p (number b) ts is refl go

-- what follows a number that begins years: the years of a range, or nothing
data Years (demand : Demand) (p q : List Piece) (ts us : List TokenKind) : Type 0 where
  single : (n : Digits) → ts ≡ number n ∷ us → p ≡ piece.Years n None None ∷ q → IsYearNumber n → Years demand p q ts us
  several : (n : Digits) → (vs : List TokenKind) → ts ≡ number n ∷ token.Dash ∷ vs → IsYearNumber n
      → Runs demand (places.YearDash n) p vs → Years demand p q ts us
  endless : (n : Digits) → (t : TokenKind) → (vs : List TokenKind) → ts ≡ number n ∷ t ∷ vs → IsYearNumber n
      → Runs demand (places.Year n) p (t ∷ vs) → Runs demand (places.ListedYear n) p (t ∷ vs) → Years demand p q ts us

-- the step of years without a last one
slash_given : (demand : Demand) (n s : Digits) (p q : List Piece) (us : List TokenKind)
    → p ≡ piece.Years n (Some final_year) (Some s) ∷ q → AreFewYears n s → Runs demand (places.After stage.Years) q us
    → Runs demand (places.YearSlash n) p (number s ∷ us)
slash_given demand n s p q us f few go =
    renamed demand (places.YearSlash n) p (piece.Years n (Some final_year) (Some s) ∷ q) (number s ∷ us) (number s ∷ us) f refl
    (fit_completed demand (places.YearSlash n) (places.After stage.Years) (piece.Years n (Some final_year) (Some s)) q (number s)
    us few refl go)

-- the sign of years without a last one
plus_given : (demand : Demand) (at : Place) (n : Digits) (p q : List Piece) (us : List TokenKind)
    → p ≡ piece.Years n (Some final_year) None ∷ q → (Fits at (Some token.Plus) → ⊥)
    → next_move at (Some token.Plus) false ≡ complete (piece.Years n (Some final_year) None) (places.After stage.Years)
    → Runs demand (places.After stage.Years) q us → Runs demand at p (token.Plus ∷ us)
plus_given demand at n p q us f never m go =
    renamed demand at p (piece.Years n (Some final_year) None ∷ q) (token.Plus ∷ us) (token.Plus ∷ us) f refl
    (sign_completed demand at (places.After stage.Years) (piece.Years n (Some final_year) None) q token.Plus us never m go)

and_true : (a b : Bool) → a ≡ true → b ≡ true → (a && b) ≡ true
and_true true b e f = f
and_true false b e f = absurd cc

step_bit : (n : Digits) → IsStepNumber n → is_step n.value n.count ≡ true
step_bit n is =
    and_true (nat_le 1 n.count && nat_le n.count 4 && nat_le 1 n.value) (nat_le n.value 9999)
    (and_true (nat_le 1 n.count && nat_le n.count 4) (nat_le 1 n.value)
    (and_true (nat_le 1 n.count) (nat_le n.count 4) (le-leb 1 n.count is.0) (le-leb n.count 4 is.1)) (le-leb 1 n.value is.2))
    (le-leb n.value 9999 is.3)

years : (demand : Demand) (p q : List Piece) (ts us : List TokenKind) → IsYears demand p ts q us
    → Runs demand (places.After stage.Years) q us → Years demand p q ts us
years demand p q ts us (IsYears.one n e f is) go = single n e f is
years demand p q ts us (IsYears.range a b e f is) go =
    several a (number b ∷ us) e is.0 (to_range demand a b p us is
    (renamed demand (places.YearRange a b) p (piece.Years a (Some b) None ∷ q) us us f refl (range_given demand a b q us go)))
years demand p q ts us (IsYears.every a b n e f is also) go =
    several a (number b ∷ token.Slash ∷ number n ∷ us) e is.0 (to_range demand a b p (token.Slash ∷ number n ∷ us) is
    (sign_taken demand (places.YearRange a b) (places.YearStep a b) p token.Slash (number n ∷ us) (λ x. x) refl
    (renamed demand (places.YearStep a b) p (piece.Years a (Some b) (Some n) ∷ q) (number n ∷ us) (number n ∷ us) f refl
    (fit_completed demand (places.YearStep a b) (places.After stage.Years) (piece.Years a (Some b) (Some n)) q (number n) us also
    refl go))))
years demand p q ts us (IsYears.on n e f is) go =
    endless n token.Plus us e is (plus_given demand (places.Year n) n p q us f (λ x. x) refl go)
    (plus_given demand (places.ListedYear n) n p q us f (λ x. x) refl go)
years demand p q ts us (IsYears.every_on n s e f is few) go =
    let run = slash_given demand n s p q us f few go in
    endless n token.Slash (number s ∷ us) e is
    (sign_taken demand (places.Year n) (places.YearSlash n) p token.Slash (number s ∷ us) (λ x. x) refl run)
    (sign_taken demand (places.ListedYear n) (places.YearSlash n) p token.Slash (number s ∷ us) (λ x. x) refl run)
years demand p q ts us (IsYears.many n s by e f g is some) go =
    let none : p ≡ [] = g ∙ after_nothing demand stage.Years q us f go in
    let judged : is_judged (places.YearSlash n) (number s) demand ≡ true =
    ap (is_judged (places.YearSlash n) (number s)) by ∙ step_bit s some in
    let run = any_last (places.YearSlash n) p (number s ∷ []) (number s) (ap may_judge by) judged none refl in
    endless n token.Slash (number s ∷ []) e is
    (sign_taken demand (places.Year n) (places.YearSlash n) p token.Slash (number s ∷ []) (λ x. x) refl run)
    (sign_taken demand (places.ListedYear n) (places.YearSlash n) p token.Slash (number s ∷ []) (λ x. x) refl run)

first_year : (demand : Demand) (p q : List Piece) (ts us : List TokenKind) → begins_with_date ts ≡ false
    → Runs demand (places.After stage.Years) q us → Years demand p q ts us → Begins demand IsYearNumber places.Year p ts
first_year demand p q ts us no_date go (single n e f is) = record {
  n = n;
  us = us;
  tokens = e;
  is = is;
  runs = renamed demand (places.Year n) p (piece.Years n None None ∷ q) us us f refl
      (year_given demand n q us (ap begins_with_date (sym e) ∙ no_date) go);
}
first_year demand p q ts us no_date go (several n vs e is run) = record {
  n = n;
  us = token.Dash ∷ vs;
  tokens = e;
  is = is;
  runs = sign_taken demand (places.Year n) (places.YearDash n) p token.Dash vs (λ x. x) refl run;
}
first_year demand p q ts us no_date go (endless n t vs e is run other) = record {
  n = n;
  us = t ∷ vs;
  tokens = e;
  is = is;
  runs = run;
}

listed_year : (demand : Demand) (p q : List Piece) (ts us : List TokenKind) → Runs demand (places.After stage.Years) q us
    → Years demand p q ts us → Begins demand IsYearNumber places.ListedYear p ts
listed_year demand p q ts us go (single n e f is) = record {
  n = n;
  us = us;
  tokens = e;
  is = is;
  runs = renamed demand (places.ListedYear n) p (piece.Years n None None ∷ q) us us f refl (listed_given demand n q us go);
}
listed_year demand p q ts us go (several n vs e is run) = record {
  n = n;
  us = token.Dash ∷ vs;
  tokens = e;
  is = is;
  runs = sign_taken demand (places.ListedYear n) (places.YearDash n) p token.Dash vs (λ x. x) refl run;
}
listed_year demand p q ts us go (endless n t vs e is other run) = record {
  n = n;
  us = t ∷ vs;
  tokens = e;
  is = is;
  runs = run;
}

-- ---- lists of years

pub goes_on_if : (b : Bool) (x y : Option Move) → b ≡ true → (if b then x else y) ≡ x
goes_on_if true x y e = refl
goes_on_if false x y e = absurd cc

next_year : (demand : Demand) (p q : List Piece) (ts us : List TokenKind) → IsYears demand p ts q us
    → Runs demand (places.After stage.Years) q us → Runs demand (places.Comma stage.Years) p ts
next_year demand p q ts us is go =
    let b = listed_year demand p q ts us go (years demand p q ts us is go) in
    subst (Runs demand (places.Comma stage.Years) p) (sym b.tokens)
    (fit_taken demand (places.Comma stage.Years) (places.ListedYear b.n) p (number b.n) b.us b.is
    (goes_on_if (b.n.count == 4) (take (places.ListedYear b.n)) (give (piece.Rule link.Also) places.Front)
    (eq-eqb b.n.count 4 b.is.0)) b.runs)

-- a number of four digits is not that of `24/7`
pub no_twenty_four : (v d : ℕ) (x y : Option Move) → d ≡ 4 → (if v == 24 && d == 2 then x else y) ≡ y
no_twenty_four v d x y e =
    let two : (d == 2) ≡ false = ap (λ (n : ℕ). n == 2) e in
    ap (λ (b : Bool). if b then x else y) (not_fit (v == 24) (d == 2) two)

-- a list of years at the beginning of a rule
pub years_run : (demand : Demand) (p later : List Piece) (ts rest : List TokenKind) → begins_with_date ts ≡ false
    → Listed (IsYears demand) p ts later rest → Runs demand (places.After stage.Years) later rest
    → Runs demand places.Front (piece.Kind ∷ p) ts
years_run demand p later ts rest no_date l go =
    let run = more_runs demand (IsYears demand) (places.After stage.Years) (places.Comma stage.Years) (next_year demand)
    (comma_runs demand stage.Years) later rest l.q l.us l.more go in
    let b = first_year demand p l.q ts l.us no_date run (years demand p l.q ts l.us l.one run) in
    subst (Runs demand places.Front (piece.Kind ∷ p)) (sym b.tokens)
    (fit_completed demand places.Front (places.Year b.n) piece.Kind p (number b.n) b.us b.is
    (no_twenty_four b.n.value b.n.count (take places.TwentyFour) (complete piece.Kind (places.Year b.n)) b.is.0) b.runs)
