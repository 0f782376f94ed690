-- What runs from behind a list of months and dates also runs from behind a date.
use Rattle.std.proofs.Common.{◌≡◌, ℕ, ◌≤◌, Bool, true, false, List, [], ◌∷◌, Option, Some, None, refl, sym, ap, subst, ◌∙◌, arith}
use Rattle.std.proofs.Common.{pos}
use Rattle.std.specs.Prelude.{◌==◌, ◌&&◌, ◌↔◌, if◌then◌else◌, IfSome}
use Rattle.std.proofs.lemmas.Bool.{eq-eqb, eqb-true, ne_eqb}
use Rattle.std.proofs.lemmas.Int.{ints}
use Rattle.gtd_hours.specs.Calendar.{month_length}
use Rattle.gtd_hours.specs.Ranges.{IsMonth}
use Rattle.gtd_hours.specs.declared.hours.Link.TheVariants as link
use Rattle.gtd_hours_tokens.specs.declared.token.TokenKind.TheVariants as token
use Rattle.gtd_hours_parts.specs.declared.digits.Digits.{Digits}
use Rattle.gtd_hours_parts.specs.Numbers.{IsYearNumber}
use Rattle.gtd_hours_moves.specs.Terms.{TokenKind, Piece, Place, Move}
use Rattle.gtd_hours_parts.specs.declared.piece.Piece.TheVariants as piece
use Rattle.gtd_hours_moves.specs.declared.stage.Stage.TheVariants as stage
use Rattle.gtd_hours_moves.specs.declared.place.Place.TheVariants as places
use Rattle.gtd_hours_moves.specs.Grammar.{Demand}
use Rattle.gtd_hours_parts.specs.Pieces.{IsDay}
use Rattle.gtd_hours_moves.specs.Sound.{Fits, YearOrListed}
use Rattle.gtd_hours_moves.specs.Moves.{complete, give, listed, next_move, take, when, written}
use Rattle.gtd_hours_moves.specs.Runs.{Runs, is_judged, first, is_after, is_cut, left, with_piece}
use Rattle.gtd_hours_moves.specs.Runs.Runs.{ends, cut, any_last, step}
use Rattle.gtd_hours_moves.specs.facts.RunSteps.{fit_taken, no_token, sign_completed, sign_taken}
use Rattle.gtd_hours_moves.specs.facts.FollowSteps.{after_nothing, renamed}

-- ---- runs from one place, and from another with the same move

same_step : (demand : Demand) (at to : Place) (p : List Piece) (ts : List TokenKind)
    → ((t : TokenKind) → is_judged at t demand ≡ false) → is_after at ≡ false → is_cut at ≡ false
    → ((fits : Bool) → ((fits ≡ true) ↔ Fits at (first ts)) → ((fits ≡ true) ↔ Fits to (first ts)))
    → ((fits : Bool) → next_move to (first ts) fits ≡ next_move at (first ts) fits) → Runs demand at p ts → Runs demand to p ts
same_step demand at to p ts day behind cuts fit same (ends at' p' ts' after e f) = absurd cc
same_step demand at to p ts day behind cuts fit same (cut at' p' ts' may is e f) = absurd cc
same_step demand at to p ts day behind cuts fit same (any_last at' p' ts' l by day' e f) =
    let never = day l in
    absurd cc
same_step demand at to p ts day behind cuts fit same (step at' p' q ts' move fits is m e go) =
    step to p q ts move fits (fit fits is) (same fits ∙ m) e go

-- the same on a token
same_token : (demand : Demand) (at to : Place) (p : List Piece) (t : TokenKind) (ts : List TokenKind)
    → is_judged at t demand ≡ false
    → ((fits : Bool) → ((fits ≡ true) ↔ Fits at (Some t)) → ((fits ≡ true) ↔ Fits to (Some t)))
    → ((fits : Bool) → next_move to (Some t) fits ≡ next_move at (Some t) fits) → Runs demand at p (t ∷ ts)
    → Runs demand to p (t ∷ ts)
same_token demand at to p t ts day fit same (ends at' p' ts' after e f) = absurd cc
same_token demand at to p t ts day fit same (cut at' p' ts' may is e f) = absurd cc
same_token demand at to p t ts day fit same (any_last at' p' ts' l by day' e f) = absurd cc
same_token demand at to p t ts day fit same (step at' p' q ts' move fits is m e go) =
    step to p q (t ∷ ts) move fits (fit fits is) (same fits ∙ m) e go

-- a token that is used up
pub behind_token : (demand : Demand) (at to : Place) (p : List Piece) (t : TokenKind) (ts : List TokenKind)
    → is_judged at t demand ≡ false
    → ((fits : Bool) → next_move at (Some t) fits ≡ take to) → Runs demand at p (t ∷ ts) → Runs demand to p ts
behind_token demand at to p t ts day takes (ends at' p' ts' after e f) = absurd cc
behind_token demand at to p t ts day takes (cut at' p' ts' may is e f) = absurd cc
behind_token demand at to p t ts day takes (any_last at' p' ts' l by day' e f) = absurd cc
behind_token demand at to p t ts day takes (step at' p' q ts' move fits is m e go) =
    let taken : Move = record { to = to; piece = None; takes = true } in
    let both : Some move ≡ Some taken = sym m ∙ takes fits in
    let same : move ≡ taken = cc in
    renamed demand to p q ts ts (e ∙ ap (λ (w : Move). with_piece w.piece q) same) refl
    (subst (λ (w : Move). Runs demand w.to q (left w.takes (t ∷ ts))) same go)

-- a piece that is given
record Given (demand : Demand) (to : Place) (x : Piece) (p : List Piece) (ts : List TokenKind) : Type 0 where
  q : List Piece
  pieces : p ≡ x ∷ q
  runs : Runs demand to q ts

behind_piece : (demand : Demand) (at to : Place) (x : Piece) (p : List Piece) (t : TokenKind) (ts : List TokenKind)
    → is_judged at t demand ≡ false → ((fits : Bool) → next_move at (Some t) fits ≡ give x to) → Runs demand at p (t ∷ ts)
    → Given demand to x p (t ∷ ts)
behind_piece demand at to x p t ts day gives (ends at' p' ts' after e f) = absurd cc
behind_piece demand at to x p t ts day gives (cut at' p' ts' may is e f) = absurd cc
behind_piece demand at to x p t ts day gives (any_last at' p' ts' l by day' e f) = absurd cc
behind_piece demand at to x p t ts day gives (step at' p' q ts' move fits is m e go) =
    let given : Move = record { to = to; piece = Some x; takes = false } in
    let both : Some move ≡ Some given = sym m ∙ gives fits in
    let same : move ≡ given = cc in
    record {
      q = q;
      pieces = e ∙ ap (λ (w : Move). with_piece w.piece q) same;
      runs = subst (λ (w : Move). Runs demand w.to q (left w.takes (t ∷ ts))) same go;
    }

-- ---- `24/7` behind a date and a comma

-- each month has 24 days
long_month : (y m : ℕ) → 24 ≤ month_length (pos y) m
long_month y m = grind arith

abbrev twenty_four : Digits
twenty_four = record { value = 24; count = 2 }

day_24 : (year : Option Digits) (m : ℕ) → IfSome year IsYearNumber → IsMonth m → IsDay year m twenty_four
day_24 None m y h = ((omega arith, omega arith, omega arith, omega arith), (h, (omega arith, long_month 2000 m)))
day_24 (Some n) m y h = (
  (omega arith, omega arith, omega arith, omega arith),
  ((omega (arith, ints, y.1), omega (arith, ints, y.2)), (h, (omega arith, long_month n.value m))),
)

-- a rule that begins with a number that is no year
record BeginsAlways (demand : Demand) (v d : ℕ) (p : List Piece) (ts : List TokenKind) : Type 0 where
  us : List TokenKind
  value : v ≡ 24
  digits : d ≡ 2
  tokens : ts ≡ token.Slash ∷ us
  runs : Runs demand places.TwentyFourSlash p us

slash_behind : (demand : Demand) (v d : ℕ) (p : List Piece) (ts : List TokenKind) → v ≡ 24 → d ≡ 2
    → Runs demand places.TwentyFour p ts → BeginsAlways demand v d p ts
slash_behind demand v d p (token.Slash ∷ us) e f go = record {
  us = us;
  value = e;
  digits = f;
  tokens = refl;
  runs = behind_token demand places.TwentyFour places.TwentyFourSlash p token.Slash us refl (λ fits. refl) go;
}
slash_behind demand v d p (t ∷ us) e f go =
    absurd (no_token demand places.TwentyFour p t us refl (λ fits. refl) go)
slash_behind demand v d p [] e f (ends at p' ts' after g h) = absurd cc
slash_behind demand v d p [] e f (cut at p' ts' may is g h) = absurd cc
slash_behind demand v d p [] e f (any_last at p' ts' l by day g h) = absurd cc
slash_behind demand v d p [] e f (step at p' q ts' move fits is m g go) = absurd cc

both_true : (a b : Bool) → (a && b) ≡ true → (a ≡ true) × (b ≡ true)
both_true true true e = (refl, refl)
both_true true false e = absurd cc
both_true false b e = absurd cc

if_true : (b : Bool) (x y : Option Move) → b ≡ true → (if b then x else y) ≡ x
if_true true x y e = refl
if_true false x y e = absurd cc

if_false : (b : Bool) (x y : Option Move) → b ≡ false → (if b then x else y) ≡ y
if_false false x y e = refl
if_false true x y e = absurd cc

no_year : (demand : Demand) (v d : ℕ) (p : List Piece) (ts : List TokenKind) → (d == 4) ≡ false
    → ((fits : Bool) → next_move places.Front (Some (token.Number v d)) fits
    ≡ when fits (complete piece.Kind (places.Year (written v d))))
    → Runs demand places.Front p (token.Number v d ∷ ts) → ⊥
no_year demand v d p ts other begins (ends at' p' ts' after e f) = absurd cc
no_year demand v d p ts other begins (cut at' p' ts' may is e f) = absurd cc
no_year demand v d p ts other begins (any_last at' p' ts' l by day e f) = absurd cc
no_year demand v d p ts other begins (step at' p' q ts' move true is m e go) =
    let four : (d == 4) ≡ true = eq-eqb d 4 (is.0 refl).0 in
    let both : false ≡ true = sym other ∙ four in
    absurd cc
no_year demand v d p ts other begins (step at' p' q ts' move false is m e go) =
    let both : Some move ≡ None = sym m ∙ begins false in
    absurd cc

always_behind : (demand : Demand) (v d : ℕ) (p : List Piece) (ts : List TokenKind) (b : Bool) → (v == 24 && d == 2) ≡ b
    → (d == 4) ≡ false → Runs demand places.Front p (token.Number v d ∷ ts) → BeginsAlways demand v d p ts
always_behind demand v d p ts true e other go =
    let both = both_true (v == 24) (d == 2) e in
    slash_behind demand v d p ts (eqb-true v 24 both.0) (eqb-true d 2 both.1)
    (behind_token demand places.Front places.TwentyFour p (token.Number v d) ts refl
    (λ fits. if_true (v == 24 && d == 2) (take places.TwentyFour) (when fits (complete piece.Kind (places.Year (written v d)))) e)
    go)
always_behind demand v d p ts false e other go =
    absurd (no_year demand v d p ts other
    (λ fits. if_false (v == 24 && d == 2) (take places.TwentyFour)
    (when fits (complete piece.Kind (places.Year (written v d)))) e)
    go)

-- a day that is none
day_no_year : (demand : Demand) (year : Option Digits) (m : ℕ) (n : Digits) (p : List Piece) (ts : List TokenKind)
    → (n.count == 4) ≡ false → IsDay year m n
    → Runs demand (places.ListedDay (record { year = year; month = m; day = n })) p ts
    → Runs demand (places.CommaDate year m) p (token.Number n.value n.count ∷ ts)
day_no_year demand year m n p ts other is go =
    fit_taken demand (places.CommaDate year m) (places.ListedDay (record { year = year; month = m; day = n })) p
    (token.Number n.value n.count) ts (subst (λ (b : Bool). YearOrListed b year m n) (sym other) is)
    (if_false (n.count == 4) (take (places.DateYear n)) (take (places.ListedDay (record { year = year; month = m; day = n })))
    other) go

pub listed_day_runs : (demand : Demand) (year : Option Digits) (m : ℕ) (n : Digits) (p : List Piece) (ts : List TokenKind)
    → n.count ≤ 2 → IsDay year m n → Runs demand (places.ListedDay (record { year = year; month = m; day = n })) p ts
    → Runs demand (places.AfterDate year m) p (token.Comma ∷ token.Number n.value n.count ∷ ts)
listed_day_runs demand year m n p ts short is go =
    sign_taken demand (places.AfterDate year m) (places.CommaDate year m) p token.Comma (token.Number n.value n.count ∷ ts)
    (λ x. x) refl (day_no_year demand year m n p ts (ne_eqb n.count 4 (λ e. omega (arith, short, e))) is go)

always_runs : (demand : Demand) (year : Option Digits) (m v d : ℕ) (p : List Piece) (ts : List TokenKind)
    → IfSome year IsYearNumber → IsMonth m → (d == 4) ≡ false
    → Given demand places.Front (piece.Rule link.Also) p (token.Number v d ∷ ts)
    → Runs demand (places.CommaDate year m) p (token.Number v d ∷ ts)
always_runs demand year m v d p ts y h other given =
    let b = always_behind demand v d given.q ts (v == 24 && d == 2) refl other given.runs in
    let run = sign_completed demand (places.ListedDay (record { year = year; month = m; day = twenty_four }))
    places.TwentyFourSlash (piece.Rule link.Also) given.q token.Slash b.us (λ x. x) refl b.runs in
    let comma = day_no_year demand year m twenty_four (piece.Rule link.Also ∷ given.q) (token.Slash ∷ b.us) refl
    (day_24 year m y h) run in
    renamed demand (places.CommaDate year m) p (piece.Rule link.Also ∷ given.q) (token.Number v d ∷ ts)
    (token.Number 24 2 ∷ token.Slash ∷ b.us) given.pieces
    (ap (λ (w : ℕ). token.Number w d ∷ ts) b.value ∙ ap (λ (c : ℕ). token.Number 24 c ∷ ts) b.digits
    ∙ ap (λ (l : List TokenKind). token.Number 24 2 ∷ l) b.tokens) comma

-- ---- behind a comma

year_fits : (year : Option Digits) (m : ℕ) (n : Digits) (fits : Bool) → (n.count == 4) ≡ true
    → ((fits ≡ true) ↔ IsYearNumber n) → ((fits ≡ true) ↔ YearOrListed (n.count == 4) year m n)
year_fits year m n fits e is = subst (λ (b : Bool). (fits ≡ true) ↔ YearOrListed b year m n) (sym e) is

number_runs : (demand : Demand) (year : Option Digits) (m v d : ℕ) (p : List Piece) (ts : List TokenKind) (b : Bool)
    → (d == 4) ≡ b → IfSome year IsYearNumber → IsMonth m → Runs demand (places.Comma stage.MonthDays) p (token.Number v d ∷ ts)
    → Runs demand (places.CommaDate year m) p (token.Number v d ∷ ts)
number_runs demand year m v d p ts true e y h go =
    same_token demand (places.Comma stage.MonthDays) (places.CommaDate year m) p (token.Number v d) ts refl
    (λ fits is. year_fits year m (written v d) fits e is)
    (λ fits. ap (when fits) (if_true (d == 4) (take (places.DateYear (written v d)))
    (take (places.ListedDay (record { year = year; month = m; day = written v d }))) e)
    ∙ sym (if_true (d == 4) (listed stage.MonthDays (Some (token.Number v d)) fits)
    (give (piece.Rule link.Also) places.Front) e)) go
number_runs demand year m v d p ts false e y h go =
    always_runs demand year m v d p ts y h e
    (behind_piece demand (places.Comma stage.MonthDays) places.Front (piece.Rule link.Also) p (token.Number v d) ts refl
    (λ fits. if_false (d == 4) (listed stage.MonthDays (Some (token.Number v d)) fits)
    (give (piece.Rule link.Also) places.Front) e) go)

comma_date_runs : (demand : Demand) (year : Option Digits) (m : ℕ) (p : List Piece) (ts : List TokenKind)
    → IfSome year IsYearNumber → IsMonth m → Runs demand (places.Comma stage.MonthDays) p ts
    → Runs demand (places.CommaDate year m) p ts
comma_date_runs demand year m p (token.Number v d ∷ ts) y h go = number_runs demand year m v d p ts (d == 4) refl y h go
comma_date_runs demand year m p [] y h go =
    same_step demand (places.Comma stage.MonthDays) (places.CommaDate year m) p [] (λ t. refl) refl refl (λ fits is. is)
    (λ fits. refl) go
comma_date_runs demand year m p (t ∷ ts) y h go =
    same_token demand (places.Comma stage.MonthDays) (places.CommaDate year m) p t ts refl (λ fits is. is) (λ fits. refl) go

-- ---- behind a date

pub after_date_runs : (demand : Demand) (year : Option Digits) (m : ℕ) (p : List Piece) (ts : List TokenKind)
    → IfSome year IsYearNumber → IsMonth m → Runs demand (places.After stage.MonthDays) p ts
    → Runs demand (places.AfterDate year m) p ts
after_date_runs demand year m p (token.Comma ∷ ts) y h go =
    sign_taken demand (places.AfterDate year m) (places.CommaDate year m) p token.Comma ts (λ x. x) refl
    (comma_date_runs demand year m p ts y h
    (behind_token demand (places.After stage.MonthDays) (places.Comma stage.MonthDays) p token.Comma ts refl (λ fits. refl) go))
after_date_runs demand year m p [] y h go =
    ends (places.AfterDate year m) p [] refl (after_nothing demand stage.MonthDays p [] refl go) refl
after_date_runs demand year m p (t ∷ ts) y h go =
    same_token demand (places.After stage.MonthDays) (places.AfterDate year m) p t ts refl (λ fits is. is) (λ fits. refl) go
