-- Runs behind the parts of a rule, and through lists.
use Rattle.std.proofs.Common.{◌≡◌, Bool, List, [], ◌∷◌, Some, None, refl, sym, ap, subst, ◌∙◌}
use Rattle.gtd_hours_tokens.specs.declared.token.TokenKind.TheVariants as token
use Rattle.gtd_hours_parts.specs.declared.digits.Digits.{Digits}
use Rattle.gtd_hours_moves.specs.Terms.{TokenKind, Piece, Stage, Place}
use Rattle.gtd_hours_moves.specs.declared.place.Place.TheVariants as places
use Rattle.gtd_hours_moves.specs.Grammar.{Demand, More, Text, number}
use Rattle.gtd_hours_moves.specs.Grammar.More.{none, comma}
use Rattle.gtd_hours_moves.specs.Sound.{Fits}
use Rattle.gtd_hours_moves.specs.Moves.{next_move, give}
use Rattle.gtd_hours_moves.specs.Runs.{Runs, first}
use Rattle.gtd_hours_moves.specs.Runs.Runs.{ends, cut, any_last, step}
use Rattle.gtd_hours_moves.specs.facts.RunSteps.{given, sign_taken, after_end}
use Rattle.gtd_hours_moves.specs.facts.FollowBits.{SomeBit}

-- a piece is given whatever comes next
pub given_by : (demand : Demand) (at to : Place) (x : Piece) (p : List Piece) (ts : List TokenKind) → SomeBit (Fits at (first ts))
    → ((fits : Bool) → next_move at (first ts) fits ≡ give x to) → Runs demand to p ts → Runs demand at (x ∷ p) ts
given_by demand at to x p ts bit m go = given demand at to x p ts bit.fits bit.is (m bit.fits) go

-- the run over other names of the same pieces and tokens
pub renamed : (demand : Demand) (at : Place) (p q : List Piece) (ts us : List TokenKind) → p ≡ q → ts ≡ us → Runs demand at q us
    → Runs demand at p ts
renamed demand at p q ts us e f go =
    subst (λ (l : List TokenKind). Runs demand at p l) (sym f) (subst (λ (l : List Piece). Runs demand at l us) (sym e) go)

-- a text that ends behind a part of a rule has no further piece
pub after_nothing : (demand : Demand) (s : Stage) (p : List Piece) (ts : List TokenKind) → ts ≡ []
    → Runs demand (places.After s) p ts
    → p ≡ []
after_nothing demand s p ts nothing (ends at p' ts' after e f) = e
after_nothing demand s p ts nothing (cut at p' ts' may is e f) = absurd cc
after_nothing demand s p ts nothing (any_last at p' ts' l by day e f) = absurd cc
after_nothing demand s p ts nothing (step at p' q ts' move fits is m e go) =
    let both : Some move ≡ None =
    sym m ∙ ap (λ (l : List TokenKind). next_move (places.After s) (first l) fits) nothing
    ∙ after_end (places.After s) fits refl in
    cc

-- one that begins with a number of a kind, and runs on from a place that keeps it
pub record Begins (demand : Demand) (Is : Digits → Type 0) (at : Digits → Place) (p : List Piece) (ts : List TokenKind) : Type 0
  where
    pub n : Digits
    pub us : List TokenKind
    pub tokens : ts ≡ number n ∷ us
    pub is : Is n
    pub runs : Runs demand (at n) p us

-- a run over what goes on behind one of a list
pub more_runs : (demand : Demand) (IsOne : Text) (behind next : Place)
    → ((p q : List Piece) (ts us : List TokenKind) → IsOne p ts q us → Runs demand behind q us → Runs demand next p ts)
    → ((p : List Piece) (ts : List TokenKind) → Runs demand next p ts → Runs demand behind p (token.Comma ∷ ts))
    → (later : List Piece) (rest : List TokenKind) (p : List Piece) (ts : List TokenKind) → More IsOne later rest p ts
    → Runs demand behind later rest → Runs demand behind p ts
more_runs demand IsOne behind next ones commas later rest p ts (none p' ts' e f) go =
    renamed demand behind p later ts rest e f go
more_runs demand IsOne behind next ones commas later rest p ts (comma p' q ts' us vs e one more) go =
    subst (Runs demand behind p) (sym e)
    (commas p us (ones p q us vs one (more_runs demand IsOne behind next ones commas later rest q vs more go)))

-- behind a comma
pub comma_runs : (demand : Demand) (s : Stage) (p : List Piece) (ts : List TokenKind) → Runs demand (places.Comma s) p ts
    → Runs demand (places.After s) p (token.Comma ∷ ts)
comma_runs demand s p ts go =
    sign_taken demand (places.After s) (places.Comma s) p token.Comma ts (λ x. x) refl go
