-- What makes a move right.
use Rattle.std.proofs.Common.{◌≡◌, Bool, true, false, Option, Some, None, List, ◌∷◌, refl, subst, sym}
use Rattle.gtd_hours_tokens.specs.declared.token.TokenKind.TheVariants as token
use Rattle.gtd_hours_moves.specs.Terms.{TokenKind, Piece, Stage, Place, Move}
use Rattle.gtd_hours_parts.specs.declared.piece.Piece.TheVariants as piece
use Rattle.gtd_hours_moves.specs.declared.stage.Stage.TheVariants as stage
use Rattle.gtd_hours_moves.specs.Grammar.{Demand, Follow, IsOne, Listed, More, begins_with_date, precedes}
use Rattle.gtd_hours_moves.specs.Places.{Behind, From}
use Rattle.gtd_hours_moves.specs.Sound.{Fits}
use Rattle.gtd_hours_moves.specs.Runs.{IsGood}

abbrev pub takes_to : Place → Move
takes_to to = record { to = to; piece = None; takes = true }

abbrev pub completes : Piece → Place → Move
completes x to = record { to = to; piece = Some x; takes = true }

abbrev pub gives : Piece → Place → Move
gives x to = record { to = to; piece = Some x; takes = false }

-- what holds of a move on a token that fits holds of the move on what comes next, if this is the token
pub token_good : (at : Place) (next : Option TokenKind) (t : TokenKind) (fits : Bool) (move : Move) → next ≡ Some t → fits ≡ true
    → (fits ≡ true → Fits at next) → (Fits at (Some t) → IsGood at (Some t) move) → IsGood at next move
token_good at next t fits move same holds fit good =
    subst (λ n. IsGood at n move) (sym same) (good (subst (Fits at) same (fit holds)))

-- a token that needs not fit
pub sign_good : (at : Place) (next : Option TokenKind) (t : TokenKind) (move : Move) → next ≡ Some t
    → IsGood at (Some t) move → IsGood at next move
sign_good at next t move same good = subst (λ n. IsGood at n move) (sym same) good

-- behind a list of nothing more, what follows it
pub behind : (d : Demand) (s : Stage) (p : List Piece) (ts : List TokenKind) → Follow d s p ts → Behind d s p ts
behind d s p ts follow = record { later = p; rest = ts; more = More.none p ts refl refl; follow = follow }

-- from one of a list on, the list and what follows it
pub listed : (d : Demand) (s : Stage) (p : List Piece) (ts : List TokenKind) (f : From d s p ts)
    → Listed (IsOne d s) p ts f.behind.later f.behind.rest
listed d s p ts f = record { q = f.later; us = f.rest; one = f.one; more = f.behind.more }

pub years_follow : (d : Demand) (s : Stage) (p : List Piece) (ts : List TokenKind) → precedes s stage.Years ≡ true
    → begins_with_date ts ≡ false → From d stage.Years p ts → Follow d s (piece.Kind ∷ p) ts
years_follow d s p ts before dateless f = Follow.years s (piece.Kind ∷ p) p f.behind.later ts f.behind.rest before dateless refl
    (listed d stage.Years p ts f) f.behind.follow

pub month_days_follow : (d : Demand) (s : Stage) (p : List Piece) (ts : List TokenKind) → precedes s stage.MonthDays ≡ true
    → From d stage.MonthDays p ts → Follow d s (piece.Kind ∷ p) ts
month_days_follow d s p ts before f = Follow.month_days s (piece.Kind ∷ p) p f.behind.later ts f.behind.rest before refl
    (listed d stage.MonthDays p ts f) f.behind.follow

pub weeks_follow : (d : Demand) (s : Stage) (p : List Piece) (ts : List TokenKind) → precedes s stage.Weeks ≡ true
    → From d stage.Weeks p ts → Follow d s (piece.Kind ∷ p) (token.Week ∷ ts)
weeks_follow d s p ts before f = Follow.weeks s (piece.Kind ∷ p) p f.behind.later (token.Week ∷ ts) ts f.behind.rest before refl
    refl (listed d stage.Weeks p ts f) f.behind.follow

pub weekdays_follow : (d : Demand) (s : Stage) (p : List Piece) (ts : List TokenKind) → precedes s stage.Weekdays ≡ true
    → From d stage.Weekdays p ts → Follow d s (piece.Kind ∷ p) ts
weekdays_follow d s p ts before f = Follow.weekdays s (piece.Kind ∷ p) p f.behind.later ts f.behind.rest before refl
    (listed d stage.Weekdays p ts f) f.behind.follow

pub times_follow : (d : Demand) (s : Stage) (p : List Piece) (ts : List TokenKind) → precedes s stage.Times ≡ true
    → From d stage.Times p ts → Follow d s p ts
times_follow d s p ts before f = Follow.times s p f.behind.later ts f.behind.rest before
    (listed d stage.Times p ts f) f.behind.follow
