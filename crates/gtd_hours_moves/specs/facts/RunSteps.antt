-- Steps of a run: the first step is the one that the table says.
use Rattle.std.proofs.Common.{◌≡◌, ◌↔◌, Bool, true, false, List, [], ◌∷◌, Option, Some, None, refl, sym, ap, subst, ◌∙◌}
use Rattle.std.specs.Prelude.{◌&&◌}
use Rattle.gtd_hours_tokens.specs.declared.token.TokenKind.TheVariants as token
use Rattle.gtd_hours_moves.specs.Terms.{TokenKind, Piece, Place, Move}
use Rattle.gtd_hours_parts.specs.declared.piece.Piece.TheVariants as piece
use Rattle.gtd_hours_parts.specs.declared.piece.LastDate.{LastDate}
use Rattle.gtd_hours_parts.specs.declared.piece.LastDate.TheVariants as last_date
use Rattle.gtd_hours_parts.specs.Pieces.{end_month, end_year, final_year}
use Rattle.gtd_hours_moves.specs.declared.place.Place.TheVariants as places
use Rattle.gtd_hours_moves.specs.Grammar.{Demand, days_of_months, in_full, so_far}
use Rattle.gtd_hours_moves.specs.declared.stage.Stage.TheVariants as stage
use Rattle.gtd_hours_moves.specs.Sound.{Fits}
use Rattle.gtd_hours_moves.specs.Moves.{next_move, give, take, complete, when, written}
use Rattle.gtd_hours_moves.specs.Runs.{Runs, first, left, is_after, is_cut, is_judged}
use Rattle.gtd_hours_moves.specs.Runs.Runs.{ends, cut, any_last, step}

-- ---- bits that tell whether something holds

pub same_bit : (A : Type 0) (a b : Bool) → ((a ≡ true) ↔ A) → ((b ≡ true) ↔ A) → a ≡ b
same_bit A true true h k = refl
same_bit A true false h k = sym (k.1 (h.0 refl))
same_bit A false true h k = h.1 (k.0 refl)
same_bit A false false h k = refl

pub yes : (A : Type 0) → A → ((true ≡ true) ↔ A)
yes A a = (λ e. a, λ a. refl)

pub denied : (A : Type 0) → (A → ⊥) → ((false ≡ true) ↔ A)
denied A none = (λ e. absurd cc, λ a. absurd (none a))

-- ---- where a run can end

-- at the end of a text no move leads on from behind a part of a rule
pub after_end : (at : Place) (fits : Bool) → is_after at ≡ true → next_move at None fits ≡ None
after_end (places.After s) fits e = refl
after_end (places.AfterDate y m) fits e = refl
after_end at fits e = absurd cc

-- nor from where it may break off
pub cut_end : (at : Place) (fits : Bool) → is_cut at ≡ true → next_move at None fits ≡ None
cut_end (places.DateDash x) fits e = refl
cut_end (places.DateDashYear x n) fits e = refl
cut_end (places.DateDashMonth x y m) fits e = refl
cut_end (places.MonthsYear a m b) fits e = refl
cut_end at fits e = absurd cc

-- ---- steps

-- what follows a move
pub record Goes (demand : Demand) (move : Move) (p : List Piece) (ts : List TokenKind) : Type 0 where
  pub q : List Piece
  pub runs : Runs demand move.to q (left move.takes ts)

no_move : (at : Place) (ts : List TokenKind) (fits : Bool) (move : Move) → ts ≡ []
    → ((fits : Bool) → next_move at None fits ≡ None) → next_move at (first ts) fits ≡ Some move → ⊥
no_move at ts fits move e none m =
    let both : Some move ≡ None = sym m ∙ ap (λ (l : List TokenKind). next_move at (first l) fits) e ∙ none fits in cc

-- the move of a token that comes last
last_move : (demand : Demand) (at : Place) (p : List Piece) (t : TokenKind) (fits : Bool) (move : Move)
    → is_judged at t demand ≡ true
    → next_move at (Some t) fits ≡ Some move → Goes demand move p (t ∷ [])
last_move demand (places.DateDashMonth x y m) p (token.Number v d) true move is e =
    let last : LastDate = last_date.Date (record { year = y; month = m; day = written v d }) in
    let to : Place = places.AfterDate (end_year x (Some last)) (end_month x (Some last)) in
    let day : Move = record { to = to; piece = Some (piece.Dates x (Some last)); takes = true } in
    let same : day ≡ move = cc in
    subst (λ (w : Move). Goes demand w p (token.Number v d ∷ [])) same
    (record { q = []; runs = ends to [] [] refl refl refl })
last_move demand (places.DateDashMonth x y m) p (token.Number v d) false move is e = absurd cc
last_move demand (places.MonthsYear a m b) p (token.Month l) true move is e =
    let to : Place = places.After stage.MonthDays in
    let month : Move = record { to = to; piece = Some (days_of_months a m b l); takes = true } in
    let same : month ≡ move = cc in
    subst (λ (w : Move). Goes demand w p (token.Month l ∷ [])) same (record { q = []; runs = ends to [] [] refl refl refl })
last_move demand (places.MonthsYear a m b) p (token.Month l) false move is e = absurd cc
last_move demand (places.YearSlash n) p (token.Number v d) true move is e =
    let to : Place = places.After stage.Years in
    let x : Piece = piece.Years n (Some final_year) (Some (written v d)) in
    let step : Move = record { to = to; piece = Some x; takes = true } in
    let same : step ≡ move = cc in
    subst (λ (w : Move). Goes demand w p (token.Number v d ∷ [])) same (record { q = []; runs = ends to [] [] refl refl refl })
last_move demand (places.YearSlash n) p (token.Number v d) false move is e = absurd cc
last_move demand (places.WeekBack a b) p token.Slash fits move is e = absurd cc
last_move demand at p t fits move is e = absurd cc

-- two moves by the same token are the same
pub same_move : (at : Place) (next : Option TokenKind) (a b : Bool) (move other : Move) → ((a ≡ true) ↔ Fits at next)
    → ((b ≡ true) ↔ Fits at next) → next_move at next a ≡ Some move → next_move at next b ≡ Some other → other ≡ move
same_move at next a b move other h k e f =
    let same : a ≡ b = same_bit (Fits at next) a b h k in
    let both : Some other ≡ Some move = sym f ∙ ap (next_move at next) (sym same) ∙ e in
    cc

-- the first step of a run is the one by the table
pub run_step : (demand : Demand) (at : Place) (p : List Piece) (ts : List TokenKind) (fits : Bool) (move : Move)
    → ((fits ≡ true) ↔ Fits at (first ts)) → next_move at (first ts) fits ≡ Some move → Runs demand at p ts
    → Goes demand move p ts
run_step demand at p ts fits move is m (ends at' p' ts' after e f) =
    absurd (no_move at ts fits move f (λ b. after_end at b after) m)
run_step demand at p ts fits move is m (cut at' p' ts' may is_cut e f) =
    absurd (no_move at ts fits move f (λ b. cut_end at b is_cut) m)
run_step demand at p ts fits move is m (any_last at' p' ts' l by day e f) =
    subst (Goes demand move p) (sym f)
    (last_move demand at p l fits move day (ap (λ (l : List TokenKind). next_move at (first l) fits) (sym f) ∙ m))
run_step demand at p ts fits move is m (step at' p' q ts' other bit k n e go) =
    let same = same_move at (first ts) fits bit move other is k m n in
    record { q = q; runs = subst (λ (w : Move). Runs demand w.to q (left w.takes ts)) same go }

-- a token that makes no move is refused
pub run_refused : (at : Place) (p : List Piece) (kind : TokenKind) (ts : List TokenKind) (fits : Bool)
    → ((fits ≡ true) ↔ Fits at (Some kind)) → next_move at (Some kind) fits ≡ None → Runs so_far at p (kind ∷ ts) → ⊥
run_refused at p kind ts fits is none (ends at' p' ts' after e f) = absurd cc
run_refused at p kind ts fits is none (cut at' p' ts' may cuts e f) = absurd cc
run_refused at p kind ts fits is none (any_last at' p' ts' l by day e f) = absurd cc
run_refused at p kind ts fits is none (step at' p' q ts' other bit k n e go) =
    let same : fits ≡ bit = same_bit (Fits at (Some kind)) fits bit is k in
    let both : Some other ≡ None = sym n ∙ ap (next_move at (Some kind)) (sym same) ∙ none in
    cc

-- also where a token that comes last need only fit by its place, if this one is not judged so
pub unjudged_refused : (demand : Demand) (at : Place) (p : List Piece) (kind : TokenKind) (ts : List TokenKind) (fits : Bool)
    → is_judged at kind demand ≡ false → ((fits ≡ true) ↔ Fits at (Some kind)) → next_move at (Some kind) fits ≡ None
    → Runs demand at p (kind ∷ ts) → ⊥
unjudged_refused demand at p kind ts fits not is none (ends at' p' ts' after e f) = absurd cc
unjudged_refused demand at p kind ts fits not is none (cut at' p' ts' may cuts e f) = absurd cc
unjudged_refused demand at p kind ts fits not is none (any_last at' p' ts' l by day e f) = absurd cc
unjudged_refused demand at p kind ts fits not is none (step at' p' q ts' other bit k n e go) =
    let same : fits ≡ bit = same_bit (Fits at (Some kind)) fits bit is k in
    let both : Some other ≡ None = sym n ∙ ap (next_move at (Some kind)) (sym same) ∙ none in
    cc

-- and so is the end of a text
pub run_end_refused : (at : Place) (p : List Piece) (fits : Bool) → is_after at ≡ false → ((fits ≡ true) ↔ Fits at None)
    → next_move at None fits ≡ None → Runs in_full at p [] → ⊥
run_end_refused at p fits not is none (ends at' p' ts' after e f) = absurd cc
run_end_refused at p fits not is none (cut at' p' ts' may cuts e f) = absurd cc
run_end_refused at p fits not is none (any_last at' p' ts' l by day e f) = absurd cc
run_end_refused at p fits not is none (step at' p' q ts' other bit k n e go) =
    let same : fits ≡ bit = same_bit (Fits at None) fits bit is k in
    let both : Some other ≡ None = sym n ∙ ap (next_move at None) (sym same) ∙ none in
    cc

-- a token that makes no move at a place does not come there
pub no_token : (demand : Demand) (at : Place) (p : List Piece) (t : TokenKind) (ts : List TokenKind)
    → is_judged at t demand ≡ false
    → ((fits : Bool) → next_move at (Some t) fits ≡ None) → Runs demand at p (t ∷ ts) → ⊥
no_token demand at p t ts day none (ends at' p' ts' after e f) = absurd cc
no_token demand at p t ts day none (cut at' p' ts' may is e f) = absurd cc
no_token demand at p t ts day none (any_last at' p' ts' l by day' e f) = absurd cc
no_token demand at p t ts day none (step at' p' q ts' move fits is m e go) =
    let both : Some move ≡ None = sym m ∙ none fits in cc

pub not_fit : (a b : Bool) → b ≡ false → (a && b) ≡ false
not_fit true b e = e
not_fit false b e = refl

pub held : (b : Bool) (move : Option Move) → b ≡ false → when b move ≡ None
held false move e = refl
held true move e = absurd cc

-- ---- runs that begin with a step

-- the token is used up
pub taken : (demand : Demand) (at to : Place) (p : List Piece) (t : TokenKind) (ts : List TokenKind) (fits : Bool)
    → ((fits ≡ true) ↔ Fits at (Some t)) → next_move at (Some t) fits ≡ take to → Runs demand to p ts
    → Runs demand at p (t ∷ ts)
taken demand at to p t ts fits is m go =
    step at p p (t ∷ ts) (record { to = to; piece = None; takes = true }) fits is m refl go

-- it is used up, and a piece is complete
pub completed : (demand : Demand) (at to : Place) (x : Piece) (p : List Piece) (t : TokenKind) (ts : List TokenKind) (fits : Bool)
    → ((fits ≡ true) ↔ Fits at (Some t)) → next_move at (Some t) fits ≡ complete x to → Runs demand to p ts
    → Runs demand at (x ∷ p) (t ∷ ts)
completed demand at to x p t ts fits is m go =
    step at (x ∷ p) p (t ∷ ts) (record { to = to; piece = Some x; takes = true }) fits is m refl go

-- a piece was complete before it
pub given : (demand : Demand) (at to : Place) (x : Piece) (p : List Piece) (ts : List TokenKind) (fits : Bool)
    → ((fits ≡ true) ↔ Fits at (first ts)) → next_move at (first ts) fits ≡ give x to → Runs demand to p ts
    → Runs demand at (x ∷ p) ts
given demand at to x p ts fits is m go =
    step at (x ∷ p) p ts (record { to = to; piece = Some x; takes = false }) fits is m refl go

-- a token that fits is used up
pub fit_taken : (demand : Demand) (at to : Place) (p : List Piece) (t : TokenKind) (ts : List TokenKind) → Fits at (Some t)
    → next_move at (Some t) true ≡ take to → Runs demand to p ts → Runs demand at p (t ∷ ts)
fit_taken demand at to p t ts fit m go = taken demand at to p t ts true (yes (Fits at (Some t)) fit) m go

pub fit_completed : (demand : Demand) (at to : Place) (x : Piece) (p : List Piece) (t : TokenKind) (ts : List TokenKind)
    → Fits at (Some t) → next_move at (Some t) true ≡ complete x to → Runs demand to p ts → Runs demand at (x ∷ p) (t ∷ ts)
fit_completed demand at to x p t ts fit m go = completed demand at to x p t ts true (yes (Fits at (Some t)) fit) m go

-- a word or sign is
pub sign_taken : (demand : Demand) (at to : Place) (p : List Piece) (t : TokenKind) (ts : List TokenKind)
    → (Fits at (Some t) → ⊥) → next_move at (Some t) false ≡ take to → Runs demand to p ts → Runs demand at p (t ∷ ts)
sign_taken demand at to p t ts none m go = taken demand at to p t ts false (denied (Fits at (Some t)) none) m go

pub sign_completed : (demand : Demand) (at to : Place) (x : Piece) (p : List Piece) (t : TokenKind) (ts : List TokenKind)
    → (Fits at (Some t) → ⊥) → next_move at (Some t) false ≡ complete x to → Runs demand to p ts
    → Runs demand at (x ∷ p) (t ∷ ts)
sign_completed demand at to x p t ts none m go = completed demand at to x p t ts false (denied (Fits at (Some t)) none) m go
