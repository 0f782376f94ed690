-- What a valid expression is built of is valid.
use Rattle.std.proofs.Common.{◌≡◌, Bool, true, false, cond, List, [], ◌∷◌, Option, Some, None, sym, subst}
use Rattle.std.proofs.lemmas.Option.{option_and_then_some}
use Rattle.gtd_core.specs.declared.start.StartParts.{StartParts}
use Rattle.gtd_core.specs.declared.duration.DurationParts.{DurationParts}
use Rattle.gtd_core.specs.Trees.{Tree, Single, AreValid}
use Rattle.gtd_core.specs.Ranges.{IsStart}
use Rattle.gtd_text.specs.declared.token.TokenKind.{TokenKind}
use Rattle.gtd_text.specs.declared.token.TokenKind.TheVariants.{OpenBracket, CloseBracket, OpenParenthesis, CloseParenthesis}
use Rattle.gtd_text.specs.declared.token.TokenKind.TheVariants.{OpenBrace, CloseBrace, Plus, Star, Minus}
use Rattle.gtd_text.specs.ComputedFields.{fits_start, fits_duration, with_start_field, with_duration_field}
use Rattle.gtd_text.specs.Building.{Sums, Pending, State, Expecting, InStart, AfterStart, InDuration, AfterItem, EndsInRange}
use Rattle.gtd_text.specs.Building.{total, times, close_start, close_duration, close_bracket, step, finish, build}

abbrev IsValidSum : Sums → Type 0
IsValidSum None = Unit {0}
IsValidSum (Some left) = AreValid left.1

abbrev IsValidProduct : Option Tree → Type 0
IsValidProduct None = Unit {0}
IsValidProduct (Some left) = AreValid left

abbrev AreValidPending : List Pending → Type 0
AreValidPending [] = Unit {0}
AreValidPending (p ∷ outer) = IsValidSum p.0 × IsValidProduct p.1 × AreValidPending outer

abbrev AreAround : List Pending → Sums → Option Tree → Type 0
AreAround outer sum prod = AreValidPending outer × IsValidSum sum × IsValidProduct prod

-- each expression in the state is valid
abbrev IsValidState : State → Type 0
IsValidState (Expecting outer sum prod) = AreAround outer sum prod
IsValidState (InStart outer sum prod before parts) = AreAround outer sum prod
IsValidState (AfterStart outer sum prod start) = AreAround outer sum prod × IsStart start
IsValidState (InDuration outer sum prod start before parts) = AreAround outer sum prod × IsStart start
IsValidState (AfterItem outer sum term) = AreValidPending outer × IsValidSum sum × AreValid term

abbrev IsValidAfter : Option State → Type 0
IsValidAfter None = ⊥
IsValidAfter (Some state) = IsValidState state

abbrev IsValidEnd : Option Tree → Type 0
IsValidEnd None = ⊥
IsValidEnd (Some e) = AreValid e

of_total : (sum : Sums) (term : Tree) → AreValid (total sum term) → IsValidSum sum × AreValid term
of_total None term h = (tt, h)
of_total (Some left) term h = h

pub of_times : (prod : Option Tree) (e : Tree) → AreValid (times prod e) → IsValidProduct prod × AreValid e
of_times None e h = (tt, h)
of_times (Some left) e h = h

of_bracket : (outer : List Pending) (e : Tree) → IsValidAfter (close_bracket outer e) → AreValidPending outer × AreValid e
of_bracket [] e h = absurd h
of_bracket (p ∷ outer) e h = let both = of_times p.1 e h.2 in ((h.1, both.0, h.0), both.1)

of_start : (outer : List Pending) (sum : Sums) (prod : Option Tree) (fields : List TokenKind) (parts : StartParts)
    (token : TokenKind) → IsValidAfter (close_start outer sum prod fields parts token) → AreAround outer sum prod
of_start outer sum prod (field ∷ fields) parts CloseParenthesis h = h.0
of_start outer sum prod fields parts token h = absurd h

of_duration : (outer : List Pending) (sum : Sums) (prod : Option Tree) (start : StartParts) (fields : List TokenKind)
    (parts : DurationParts) (token : TokenKind) → IsValidAfter (close_duration outer sum prod start fields parts token)
    → AreAround outer sum prod × IsStart start
of_duration outer sum prod start (field ∷ fields) parts CloseBrace h = let both = of_times prod (Single start parts) h.2 in
    ((h.0, h.1, both.0), both.1.0)
of_duration outer sum prod start fields parts token h = absurd h

in_start : (fit : Bool) (outer : List Pending) (sum : Sums) (prod : Option Tree) (fields : List TokenKind) (parts : StartParts)
    (token : TokenKind) → IsValidAfter (cond fit (Some (InStart outer sum prod (token ∷ fields) (with_start_field parts token)))
    (close_start outer sum prod fields parts token)) → AreAround outer sum prod
in_start true outer sum prod fields parts token h = h
in_start false outer sum prod fields parts token h = of_start outer sum prod fields parts token h

in_duration : (fit : Bool) (outer : List Pending) (sum : Sums) (prod : Option Tree) (start : StartParts) (fields : List TokenKind)
    (parts : DurationParts) (token : TokenKind) → IsValidAfter
    (cond fit (Some (InDuration outer sum prod start (token ∷ fields) (with_duration_field parts token)))
    (close_duration outer sum prod start fields parts token)) → AreAround outer sum prod × IsStart start
in_duration true outer sum prod start fields parts token h = h
in_duration false outer sum prod start fields parts token h = of_duration outer sum prod start fields parts token h

before_step : (state : State) (token : TokenKind) → IsValidAfter (step state token) → IsValidState state
before_step (Expecting outer sum prod) OpenBracket h = (h.0.2, h.0.0, h.0.1)
before_step (Expecting outer sum prod) OpenParenthesis h = h
before_step (Expecting outer sum prod) token h = absurd h
before_step (InStart outer sum prod before parts) token h = in_start (fits_start before token) outer sum prod before parts token h
before_step (AfterStart outer sum prod start) OpenBrace h = h
before_step (AfterStart outer sum prod start) token h = absurd h
before_step (InDuration outer sum prod start before parts) token h =
    in_duration (fits_duration before token) outer sum prod start before parts token h
before_step (AfterItem outer sum term) Star h = h
before_step (AfterItem outer sum term) Plus h = let both = of_total sum term h.1 in (h.0, both.0, both.1)
before_step (AfterItem outer sum term) Minus h = let both = of_total sum term h.1 in (h.0, both.0, both.1)
before_step (AfterItem outer sum term) CloseBracket h =
    let inner = of_bracket outer (total sum term) h in
    let both = of_total sum term inner.1 in (inner.0, both.0, both.1)
before_step (AfterItem outer sum term) token h = absurd h

before_end : (state : State) → IsValidEnd (finish state) → IsValidState state
before_end (AfterItem [] sum term) h = let both = of_total sum term h in (tt, both.0, both.1)
before_end (AfterItem (p ∷ outer) sum term) h = absurd h
before_end (Expecting outer sum prod) h = absurd h
before_end (InStart outer sum prod before parts) h = absurd h
before_end (AfterStart outer sum prod start) h = absurd h
before_end (InDuration outer sum prod start before parts) h = absurd h

kept : (tokens : List TokenKind) (state : State) (e : Tree) → build state tokens ≡ Some e → AreValid e → IsValidState state
unfolding build
kept [] state e h valid = before_end state (subst IsValidEnd (sym h) valid)
kept (token ∷ tokens) state e h valid =
    option_and_then_some (λ next. build next tokens) (step state token) e h (λ next is later.
    before_step state token (subst IsValidAfter (sym is) (kept tokens next e later valid)))

ends : (state : State) → IsValidState state → EndsInRange state
ends (Expecting outer sum prod) h = tt
ends (InStart outer sum prod before parts) h = tt
ends (AfterStart outer sum prod start) h = h.1
ends (InDuration outer sum prod start before parts) h = tt
ends (AfterItem outer sum term) h = h.2

-- a state from which a valid expression is built has just ended something in its ranges
pub ends_in_range : (tokens : List TokenKind) (state : State) (e : Tree) → build state tokens ≡ Some e → AreValid e
    → EndsInRange state
ends_in_range tokens state e h valid = ends state (kept tokens state e h valid)
