-- Where no number and no time can come next, none does.
use Rattle.std.proofs.Common.{◌≡◌, ℕ, Bool, true, false, List, ◌∷◌, Option, Some, None, refl, sym, subst, ◌∙◌}
use Rattle.std.specs.Prelude.{◌&&◌}
use Rattle.gtd_hours_tokens.specs.declared.token.TokenKind.TheVariants as token
use Rattle.gtd_hours_parts.specs.declared.digits.Digits.{Digits}
use Rattle.gtd_hours_moves.specs.Terms.{TokenKind, Piece}
use Rattle.gtd_hours_moves.specs.declared.stage.Stage.{Stage}
use Rattle.gtd_hours_moves.specs.declared.place.Place.{Place}
use Rattle.gtd_hours_moves.specs.declared.place.Move.{Move}
use Rattle.gtd_hours_parts.specs.declared.piece.Piece.TheVariants as piece
use Rattle.gtd_hours_moves.specs.declared.stage.Stage.TheVariants as stage
use Rattle.gtd_hours_moves.specs.declared.place.Place.TheVariants as places
use Rattle.gtd_hours_moves.specs.Grammar.{Demand, precedes}
use Rattle.gtd_hours_parts.specs.Pieces.{final_week, week_one}
use Rattle.gtd_hours_moves.specs.Sound.{takes_number, takes_time}
use Rattle.gtd_hours_moves.specs.Moves.{next_move, give, take, complete, front_reach, written, clock}
use Rattle.gtd_hours_moves.specs.Runs.{Runs, is_judged, is_after, left}
use Rattle.gtd_hours_moves.specs.Runs.Runs.{ends, cut, any_last, step}
use Rattle.gtd_hours_moves.specs.facts.RunSteps.{held, no_token, not_fit}

abbrev is_nth : Place → Bool
is_nth (places.Nth k n r) = true
is_nth at = false

-- what comes behind a piece that is given
record Given (demand : Demand) (to : Place) (ts : List TokenKind) : Type 0 where
  q : List Piece
  runs : Runs demand to q ts

behind_piece : (demand : Demand) (at to : Place) (x : Piece) (p : List Piece) (t : TokenKind) (ts : List TokenKind)
    → is_judged at t demand ≡ false → ((fits : Bool) → next_move at (Some t) fits ≡ give x to) → Runs demand at p (t ∷ ts)
    → Given demand to (t ∷ ts)
behind_piece demand at to x p t ts day gives (ends at' p' ts' after e f) = absurd cc
behind_piece demand at to x p t ts day gives (cut at' p' ts' may is e f) = absurd cc
behind_piece demand at to x p t ts day gives (any_last at' p' ts' l by day' e f) = absurd cc
behind_piece demand at to x p t ts day gives (step at' p' q ts' move fits is m e go) =
    let given : Move = record { to = to; piece = Some x; takes = false } in
    let both : Some move ≡ Some given = sym m ∙ gives fits in
    let same : move ≡ given = cc in
    record { q = q; runs = subst (λ (w : Move). Runs demand w.to q (left w.takes (t ∷ ts))) same go }

after_number : (demand : Demand) (s : Stage) (p : List Piece) (v d : ℕ) (ts : List TokenKind) → precedes s stage.MonthDays ≡ false
    → Runs demand (places.After s) p (token.Number v d ∷ ts) → ⊥
after_number demand s p v d ts late =
    no_token demand (places.After s) p (token.Number v d) ts refl
    (λ fits. held (fits && precedes s stage.MonthDays) (complete piece.Kind (places.DateYear (written v d)))
    (not_fit fits (precedes s stage.MonthDays) late))

after_time : (demand : Demand) (s : Stage) (p : List Piece) (h m : ℕ) (ts : List TokenKind) → precedes s stage.Times ≡ false
    → Runs demand (places.After s) p (token.Time h m ∷ ts) → ⊥
after_time demand s p h m ts late =
    no_token demand (places.After s) p (token.Time h m) ts refl
    (λ fits. held (fits && precedes s stage.Times) (take (places.Time (clock h m)))
    (not_fit fits (precedes s stage.Times) late))

after_date_number : (demand : Demand) (y : Option Digits) (m : ℕ) (p : List Piece) (v d : ℕ) (ts : List TokenKind)
    → Runs demand (places.AfterDate y m) p (token.Number v d ∷ ts) → ⊥
after_date_number demand y m p v d ts =
    no_token demand (places.AfterDate y m) p (token.Number v d) ts refl
    (λ fits. held (fits && false) (complete piece.Kind (places.DateYear (written v d))) (not_fit fits false refl))

-- behind a piece that is given, a number would stand behind a part of a rule
given_number : (demand : Demand) (at : Place) (s : Stage) (x : Piece) (p : List Piece) (v d : ℕ) (ts : List TokenKind)
    → is_judged at (token.Number v d) demand ≡ false → precedes s stage.MonthDays ≡ false
    → ((fits : Bool) → next_move at (Some (token.Number v d)) fits ≡ give x (places.After s))
    → Runs demand at p (token.Number v d ∷ ts) → ⊥
given_number demand at s x p v d ts day late gives go =
    let behind = behind_piece demand at (places.After s) x p (token.Number v d) ts day gives go in
    after_number demand s behind.q v d ts late behind.runs

-- or a token behind a place in brackets
given_place : (demand : Demand) (k : ℕ) (n : Digits) (r : ℕ) (p : List Piece) (t : TokenKind) (ts : List TokenKind)
    → next_move (places.Nth k n r) (Some t) true ≡ give (piece.Places k n None) (places.BracketEnd k (front_reach r n.value))
    → next_move (places.BracketEnd k (front_reach r n.value)) (Some t) true ≡ None
    → Runs demand (places.Nth k n r) p (t ∷ ts) → ⊥
given_place demand k n r p t ts gives none go =
    let behind = behind_piece demand (places.Nth k n r) (places.BracketEnd k (front_reach r n.value)) (piece.Places k n None) p
    t ts refl (λ fits. gives) go in
    no_token demand (places.BracketEnd k (front_reach r n.value)) behind.q t ts refl (λ fits. none) behind.runs

pub no_number : (demand : Demand) (at : Place) (p : List Piece) (v d : ℕ) (ts : List TokenKind) → takes_number at ≡ false
    → Runs demand at p (token.Number v d ∷ ts) → ⊥
no_number demand places.TwentyFour p v d ts e =
    no_token demand places.TwentyFour p (token.Number v d) ts refl (λ fits. refl)
no_number demand (places.DateYear n) p v d ts e =
    no_token demand (places.DateYear n) p (token.Number v d) ts refl (λ fits. refl)
no_number demand (places.MonthDashAfterYear m) p v d ts e =
    no_token demand (places.MonthDashAfterYear m) p (token.Number v d) ts refl (λ fits. refl)
no_number demand (places.MonthsYear a m b) p v d ts e =
    no_token demand (places.MonthsYear a m b) p (token.Number v d) ts refl (λ fits. refl)
no_number demand (places.MonthDash m) p v d ts e =
    no_token demand (places.MonthDash m) p (token.Number v d) ts refl (λ fits. refl)
no_number demand (places.Date x) p v d ts e = λ go.
    let behind = behind_piece demand (places.Date x) (places.AfterDate x.year x.month) (piece.Dates x None) p (token.Number v d)
    ts refl (λ fits. refl) go in
    after_date_number demand x.year x.month behind.q v d ts behind.runs
no_number demand (places.ListedDay x) p v d ts e = λ go.
    let behind = behind_piece demand (places.ListedDay x) (places.AfterDate x.year x.month) (piece.Dates x None) p
    (token.Number v d) ts refl (λ fits. refl) go in
    after_date_number demand x.year x.month behind.q v d ts behind.runs
no_number demand (places.AfterDate y m) p v d ts e = after_date_number demand y m p v d ts
no_number demand (places.DateDashYear x n) p v d ts e =
    no_token demand (places.DateDashYear x n) p (token.Number v d) ts refl (λ fits. refl)
no_number demand (places.Week n) p v d ts e =
    given_number demand (places.Week n) stage.Weeks (piece.Weeks n None None) p v d ts refl refl (λ fits. refl)
no_number demand (places.WeekRange a b) p v d ts e =
    given_number demand (places.WeekRange a b) stage.Weeks (piece.Weeks a (Some b) None) p v d ts refl refl (λ fits. refl)
no_number demand (places.WeekBack a b) p v d ts e = λ go.
    let again = behind_piece demand (places.WeekBack a b) (places.WeekAgain a b) (piece.Weeks a (Some final_week) None) p
    (token.Number v d) ts refl (λ fits. refl) go in
    given_number demand (places.WeekAgain a b) stage.Weeks (piece.Weeks week_one (Some b) None) again.q v d ts refl refl
    (λ fits. refl) again.runs
no_number demand (places.WeekAgain a b) p v d ts e =
    given_number demand (places.WeekAgain a b) stage.Weeks (piece.Weeks week_one (Some b) None) p v d ts refl refl (λ fits. refl)
no_number demand (places.Weekday k) p v d ts e =
    given_number demand (places.Weekday k) stage.Weekdays (piece.Weekdays k None) p v d ts refl refl (λ fits. refl)
no_number demand (places.WeekdayDash k) p v d ts e =
    no_token demand (places.WeekdayDash k) p (token.Number v d) ts refl (λ fits. refl)
no_number demand (places.Nth k n r) p v d ts e = given_place demand k n r p (token.Number v d) ts refl refl
no_number demand (places.BracketEnd k r) p v d ts e =
    no_token demand (places.BracketEnd k r) p (token.Number v d) ts refl (λ fits. refl)
no_number demand (places.PlacesEnd r) p v d ts e =
    given_number demand (places.PlacesEnd r) stage.Weekdays (piece.PlacesEnd None) p v d ts refl refl (λ fits. refl)
no_number demand (places.OffsetNumber o) p v d ts e =
    no_token demand (places.OffsetNumber o) p (token.Number v d) ts refl (λ fits. refl)
no_number demand (places.Time t) p v d ts e = no_token demand (places.Time t) p (token.Number v d) ts refl (λ fits. refl)
no_number demand (places.TimeDash t) p v d ts e =
    no_token demand (places.TimeDash t) p (token.Number v d) ts refl (λ fits. refl)
no_number demand (places.After s) p v d ts e = after_number demand s p v d ts e
no_number demand at p v d ts e = absurd cc

-- the tokens of a time, at places where none can come
time_refused : (at : Place) (h m : ℕ) (fits : Bool) → takes_time at ≡ false → is_after at ≡ false → is_nth at ≡ false
    → next_move at (Some (token.Time h m)) fits ≡ None
time_refused places.TwentyFour h m fits e f g = refl
time_refused places.TwentyFourSlash h m fits e f g = refl
time_refused (places.YearMonthDash n k) h m fits e f g = refl
time_refused (places.MonthDashAfterYear k) h m fits e f g = refl
time_refused (places.DateYearMonthDash n k) h m fits e f g = refl
time_refused (places.MonthsYear a k b) h m fits e f g = refl
time_refused (places.YearDash n) h m fits e f g = refl
time_refused (places.YearStep a b) h m fits e f g = refl
time_refused (places.YearSlash n) h m fits e f g = refl
time_refused (places.DateYear n) h m fits e f g = refl
time_refused (places.DateYearMonth n k) h m fits e f g = refl
time_refused (places.MonthDash k) h m fits e f g = refl
time_refused (places.DateDash x) h m fits e f g = refl
time_refused (places.DateDashYear x n) h m fits e f g = refl
time_refused (places.DateDashMonth x y k) h m fits e f g = refl
time_refused places.WeekWord h m fits e f g = refl
time_refused (places.WeekDash n) h m fits e f g = refl
time_refused (places.WeekStep a b) h m fits e f g = refl
time_refused (places.WeekdayDash k) h m fits e f g = refl
time_refused (places.Bracket k r) h m fits e f g = refl
time_refused (places.BracketDash k r) h m fits e f g = refl
time_refused (places.NthDash k n r) h m fits e f g = refl
time_refused (places.BracketEnd k r) h m fits e f g = refl
time_refused (places.OffsetSign before r) h m fits e f g = refl
time_refused (places.OffsetNumber o) h m fits e f g = refl
time_refused (places.Time t) h m fits e f g = refl
time_refused at h m fits e f g = absurd cc

-- no time is judged by its place
time_unjudged : (at : Place) (h m : ℕ) (demand : Demand) → is_judged at (token.Time h m) demand ≡ false
time_unjudged (places.DateDashMonth x y k) h m demand = refl
time_unjudged (places.MonthsYear a k b) h m demand = refl
time_unjudged (places.WeekBack a b) h m demand = refl
time_unjudged (places.YearSlash n) h m demand = refl
time_unjudged at h m demand = refl

-- no time makes a move there, not even where a token may come last
time_stops : (demand : Demand) (at : Place) (p : List Piece) (h m : ℕ) (ts : List TokenKind)
    → ((fits : Bool) → next_move at (Some (token.Time h m)) fits ≡ None) → Runs demand at p (token.Time h m ∷ ts) → ⊥
time_stops demand at p h m ts none (ends at' p' ts' after e f) = absurd cc
time_stops demand at p h m ts none (cut at' p' ts' may is e f) = absurd cc
time_stops demand at p h m ts none (any_last at' p' ts' l by day' e f) =
    let never = time_unjudged at h m demand in
    absurd cc
time_stops demand at p h m ts none (step at' p' q ts' move fits is n e go) =
    let both : Some move ≡ None = sym n ∙ none fits in cc

pub no_time : (demand : Demand) (at : Place) (p : List Piece) (h m : ℕ) (ts : List TokenKind) → takes_time at ≡ false
    → Runs demand at p (token.Time h m ∷ ts) → ⊥
no_time demand (places.Nth k n r) p h m ts e = given_place demand k n r p (token.Time h m) ts refl refl
no_time demand (places.AfterDate y k) p h m ts e = absurd cc
no_time demand (places.After s) p h m ts e = after_time demand s p h m ts e
no_time demand at p h m ts e = time_stops demand at p h m ts (λ fits. time_refused at h m fits e refl refl)
