-- The run over a list of weeks.
use Rattle.std.proofs.Common.{◌≡◌, Bool, true, false, List, [], ◌∷◌, Some, None, refl, sym, ap, subst, ◌∙◌}
use Rattle.std.specs.Prelude.{nat_le, if◌then◌else◌}
use Rattle.std.proofs.lemmas.Bool.{le-leb, lt-leb}
use Rattle.gtd_hours_tokens.specs.declared.token.TokenKind.{TokenKind}
use Rattle.gtd_hours_tokens.specs.declared.token.TokenKind.TheVariants as token
use Rattle.gtd_hours_parts.specs.declared.digits.Digits.{Digits}
use Rattle.gtd_hours_parts.specs.Numbers.{IsWeekNumber}
use Rattle.gtd_hours_parts.specs.declared.piece.Piece.{Piece}
use Rattle.gtd_hours_parts.specs.declared.piece.Piece.TheVariants as piece
use Rattle.gtd_hours_moves.specs.declared.stage.Stage.TheVariants as stage
use Rattle.gtd_hours_moves.specs.declared.place.Place.TheVariants as places
use Rattle.gtd_hours_moves.specs.Grammar.{Demand, IsWeeks, Listed, number}
use Rattle.gtd_hours_moves.specs.Moves.{take, week_pair}
use Rattle.gtd_hours_moves.specs.Runs.{Runs, first, is_judged, may_judge}
use Rattle.gtd_hours_moves.specs.Runs.Runs.{any_last}
use Rattle.gtd_hours_parts.specs.Pieces.{AreBackWeeks, IsRange, final_week, week_one}
use Rattle.gtd_hours_moves.specs.facts.RunSteps.{fit_taken, fit_completed, sign_taken, no_token}
use Rattle.gtd_hours_moves.specs.facts.FollowBits.{begin_bit, month_bit, next_bit, no_bit}
use Rattle.gtd_hours_moves.specs.facts.FollowSteps.{Begins, after_nothing, comma_runs, given_by, more_runs, renamed}

week_given : (demand : Demand) (n : Digits) (q : List Piece) (ts : List TokenKind) → Runs demand (places.After stage.Weeks) q ts
    → Runs demand (places.Week n) (piece.Weeks n None None ∷ q) ts
week_given demand n q (token.Dash ∷ ts) go =
    absurd (no_token demand (places.After stage.Weeks) q token.Dash ts refl (λ fits. refl) go)
week_given demand n q [] go =
    given_by demand (places.Week n) (places.After stage.Weeks) (piece.Weeks n None None) q [] (no_bit ⊥ (λ x. x)) (λ fits. refl)
    go
week_given demand n q (t ∷ ts) go =
    given_by demand (places.Week n) (places.After stage.Weeks) (piece.Weeks n None None) q (t ∷ ts)
    (next_bit (places.Week n) (Some t) (λ v d e. no_bit ⊥ (λ x. x)) begin_bit month_bit) (λ fits. refl) go

range_given : (demand : Demand) (a b : Digits) (q : List Piece) (ts : List TokenKind)
    → Runs demand (places.After stage.Weeks) q ts
    → Runs demand (places.WeekRange a b) (piece.Weeks a (Some b) None ∷ q) ts
range_given demand a b q (token.Slash ∷ ts) go =
    absurd (no_token demand (places.After stage.Weeks) q token.Slash ts refl (λ fits. refl) go)
range_given demand a b q [] go =
    given_by demand (places.WeekRange a b) (places.After stage.Weeks) (piece.Weeks a (Some b) None) q [] (no_bit ⊥ (λ x. x))
    (λ fits. refl) go
range_given demand a b q (t ∷ ts) go =
    given_by demand (places.WeekRange a b) (places.After stage.Weeks) (piece.Weeks a (Some b) None) q (t ∷ ts)
    (next_bit (places.WeekRange a b) (Some t) (λ v d e. no_bit ⊥ (λ x. x)) begin_bit month_bit) (λ fits. refl) go

-- the second week of a pair, behind the first or before it
pair_by : (a b : Digits) (c : Bool) → nat_le a.value b.value ≡ c
    → week_pair a b ≡ (if c then take (places.WeekRange a b) else take (places.WeekBack a b))
pair_by a b c e = ap (λ (x : Bool). if x then take (places.WeekRange a b) else take (places.WeekBack a b)) e

-- the dash and the last week of a range
to_range : (demand : Demand) (a b : Digits) (p : List Piece) (ts : List TokenKind) → IsRange IsWeekNumber a b
    → Runs demand (places.WeekRange a b) p ts → Runs demand (places.Week a) p (token.Dash ∷ number b ∷ ts)
to_range demand a b p ts is go =
    sign_taken demand (places.Week a) (places.WeekDash a) p token.Dash (number b ∷ ts) (λ x. x) refl
    (fit_taken demand (places.WeekDash a) (places.WeekRange a b) p (number b) ts is.1
    (pair_by a b true (le-leb a.value b.value is.2)) go)

-- the weeks of a range that goes back from the first one of the year on
again_given : (demand : Demand) (a b : Digits) (q : List Piece) (ts : List TokenKind)
    → Runs demand (places.After stage.Weeks) q ts
    → Runs demand (places.WeekAgain a b) (piece.Weeks week_one (Some b) None ∷ q) ts
again_given demand a b q ts go =
    given_by demand (places.WeekAgain a b) (places.After stage.Weeks) (piece.Weeks week_one (Some b) None) q ts
    (next_bit (places.WeekAgain a b) (first ts) (λ v d e. no_bit ⊥ (λ x. x)) begin_bit month_bit) (λ fits. refl) go

-- a range that goes back
back_given : (demand : Demand) (a b : Digits) (q : List Piece) (ts : List TokenKind)
    → Runs demand (places.After stage.Weeks) q ts → Runs demand (places.WeekBack a b)
    (piece.Weeks a (Some final_week) None ∷ piece.Weeks week_one (Some b) None ∷ q) ts
back_given demand a b q (token.Slash ∷ ts) go =
    absurd (no_token demand (places.After stage.Weeks) q token.Slash ts refl (λ fits. refl) go)
back_given demand a b q [] go =
    given_by demand (places.WeekBack a b) (places.WeekAgain a b) (piece.Weeks a (Some final_week) None)
    (piece.Weeks week_one (Some b) None ∷ q) [] (no_bit ⊥ (λ x. x)) (λ fits. refl) (again_given demand a b q [] go)
back_given demand a b q (t ∷ ts) go =
    given_by demand (places.WeekBack a b) (places.WeekAgain a b) (piece.Weeks a (Some final_week) None)
    (piece.Weeks week_one (Some b) None ∷ q) (t ∷ ts)
    (next_bit (places.WeekBack a b) (Some t) (λ v d e. no_bit ⊥ (λ x. x)) begin_bit month_bit) (λ fits. refl)
    (again_given demand a b q (t ∷ ts) go)

to_back : (demand : Demand) (a b : Digits) (p : List Piece) (ts : List TokenKind) → AreBackWeeks a b
    → Runs demand (places.WeekBack a b) p ts → Runs demand (places.Week a) p (token.Dash ∷ number b ∷ ts)
to_back demand a b p ts is go =
    sign_taken demand (places.Week a) (places.WeekDash a) p token.Dash (number b ∷ ts) (λ x. x) refl
    (fit_taken demand (places.WeekDash a) (places.WeekBack a b) p (number b) ts is.1
    (pair_by a b false (lt-leb a.value b.value is.2)) go)

pub weeks_begin : (demand : Demand) (p q : List Piece) (ts us : List TokenKind) → IsWeeks demand p ts q us
    → Runs demand (places.After stage.Weeks) q us → Begins demand IsWeekNumber places.Week p ts
weeks_begin demand p q ts us (IsWeeks.one n e f is) go = record {
  n = n;
  us = us;
  tokens = e;
  is = is;
  runs = renamed demand (places.Week n) p (piece.Weeks n None None ∷ q) us us f refl (week_given demand n q us go);
}
weeks_begin demand p q ts us (IsWeeks.range a b e f is) go = record {
  n = a;
  us = token.Dash ∷ number b ∷ us;
  tokens = e;
  is = is.0;
  runs = to_range demand a b p us is
      (renamed demand (places.WeekRange a b) p (piece.Weeks a (Some b) None ∷ q) us us f refl (range_given demand a b q us go));
}
weeks_begin demand p q ts us (IsWeeks.every a b n e f is also) go = record {
  n = a;
  us = token.Dash ∷ number b ∷ token.Slash ∷ number n ∷ us;
  tokens = e;
  is = is.0;
  runs = to_range demand a b p (token.Slash ∷ number n ∷ us) is
      (sign_taken demand (places.WeekRange a b) (places.WeekStep a b) p token.Slash (number n ∷ us) (λ x. x) refl
      (renamed demand (places.WeekStep a b) p (piece.Weeks a (Some b) (Some n) ∷ q) (number n ∷ us) (number n ∷ us) f refl
      (fit_completed demand (places.WeekStep a b) (places.After stage.Weeks) (piece.Weeks a (Some b) (Some n)) q (number n) us
      also
      refl go)));
}
weeks_begin demand p q ts us (IsWeeks.back a b e f is) go = record {
  n = a;
  us = token.Dash ∷ number b ∷ us;
  tokens = e;
  is = is.0;
  runs = to_back demand a b p us is
      (renamed demand (places.WeekBack a b) p
      (piece.Weeks a (Some final_week) None ∷ piece.Weeks week_one (Some b) None ∷ q) us us f refl
      (back_given demand a b q us go));
}
weeks_begin demand p q ts us (IsWeeks.back_step a b by e f g is) go =
    let none : p ≡ [] = g ∙ after_nothing demand stage.Weeks q us f go in
    record {
      n = a;
      us = token.Dash ∷ number b ∷ token.Slash ∷ [];
      tokens = e;
      is = is.0;
      runs = to_back demand a b p (token.Slash ∷ []) is
          (any_last (places.WeekBack a b) p (token.Slash ∷ []) token.Slash (ap may_judge by)
          (ap (is_judged (places.WeekBack a b) token.Slash) by) none refl);
    }

-- a number of a week, behind the word or a comma
pub one_week : (demand : Demand) (p q : List Piece) (ts us : List TokenKind) → IsWeeks demand p ts q us
    → Runs demand (places.After stage.Weeks) q us → Runs demand places.WeekWord p ts
one_week demand p q ts us is go =
    let b = weeks_begin demand p q ts us is go in
    subst (Runs demand places.WeekWord p) (sym b.tokens)
    (fit_taken demand places.WeekWord (places.Week b.n) p (number b.n) b.us b.is refl b.runs)

next_week : (demand : Demand) (p q : List Piece) (ts us : List TokenKind) → IsWeeks demand p ts q us
    → Runs demand (places.After stage.Weeks) q us → Runs demand (places.Comma stage.Weeks) p ts
next_week demand p q ts us is go =
    let b = weeks_begin demand p q ts us is go in
    subst (Runs demand (places.Comma stage.Weeks) p) (sym b.tokens)
    (fit_taken demand (places.Comma stage.Weeks) (places.Week b.n) p (number b.n) b.us b.is refl b.runs)

-- a list of weeks, behind the word
pub weeks_run : (demand : Demand) (p later : List Piece) (ts rest : List TokenKind) → Listed (IsWeeks demand) p ts later rest
    → Runs demand (places.After stage.Weeks) later rest → Runs demand places.WeekWord p ts
weeks_run demand p later ts rest l go =
    one_week demand p l.q ts l.us l.one
    (more_runs demand (IsWeeks demand) (places.After stage.Weeks) (places.Comma stage.Weeks) (next_week demand)
    (comma_runs demand stage.Weeks) later rest l.q l.us l.more go)
