-- The run over a list of weekdays, and over a list of times.
use Rattle.std.proofs.Common.{◌≡◌, ℕ, ◌≤◌, Bool, true, false, List, [], ◌∷◌, Option, Some, None, refl, sym, ap, subst, arith}
use Rattle.std.proofs.lemmas.Bool.{le-leb}
use Rattle.gtd_hours.specs.Ranges.{IsWeekday}
use Rattle.gtd_hours_tokens.specs.declared.token.TokenKind.{TokenKind}
use Rattle.gtd_hours_tokens.specs.declared.token.TokenKind.TheVariants as token
use Rattle.gtd_hours_parts.specs.declared.digits.Digits.{Digits}
use Rattle.gtd_hours_parts.specs.declared.clock.ClockTime.{ClockTime}
use Rattle.gtd_hours_parts.specs.Numbers.{IsOffsetNumber}
use Rattle.gtd_hours_parts.specs.Times.{IsBegin}
use Rattle.gtd_hours_parts.specs.declared.piece.Offset.{Offset}
use Rattle.gtd_hours_parts.specs.declared.piece.Piece.{Piece}
use Rattle.gtd_hours_parts.specs.declared.piece.Piece.TheVariants as piece
use Rattle.gtd_hours_moves.specs.declared.stage.Stage.TheVariants as stage
use Rattle.gtd_hours_moves.specs.declared.place.Place.TheVariants as places
use Rattle.gtd_hours_moves.specs.Grammar.{Demand, IsOffset, IsPlaces, IsTimes, IsWeekdays, Listed, More, number, offset_before}
use Rattle.gtd_hours_moves.specs.Grammar.{sign, time}
use Rattle.gtd_hours_moves.specs.Moves.{back_reach, front_reach, next_move, take, when}
use Rattle.gtd_hours_moves.specs.Sound.{Reaches, ReachesTo}
use Rattle.gtd_hours_moves.specs.Runs.{Runs}
use Rattle.gtd_hours_moves.specs.facts.RunSteps.{fit_taken, fit_completed, sign_completed, sign_taken, no_token}
use Rattle.gtd_hours_moves.specs.facts.Reaching.{back_reached, far, front_reached}
use Rattle.gtd_hours_moves.specs.facts.FollowBits.{begin_bit, month_bit, next_bit, no_bit}
use Rattle.gtd_hours_moves.specs.facts.FollowSteps.{comma_runs, given_by, more_runs, renamed}

-- ---- places in brackets

nth_given : (demand : Demand) (k : ℕ) (n : Digits) (r : ℕ) (q : List Piece) (ts : List TokenKind)
    → Runs demand (places.BracketEnd k (front_reach r n.value)) q ts
    → Runs demand (places.Nth k n r) (piece.Places k n None ∷ q) ts
nth_given demand k n r q (token.Dash ∷ ts) go =
    absurd (no_token demand (places.BracketEnd k (front_reach r n.value)) q token.Dash ts refl (λ fits. refl) go)
nth_given demand k n r q [] go =
    given_by demand (places.Nth k n r) (places.BracketEnd k (front_reach r n.value)) (piece.Places k n None) q []
    (no_bit ⊥ (λ x. x)) (λ fits. refl) go
nth_given demand k n r q (t ∷ ts) go =
    given_by demand (places.Nth k n r) (places.BracketEnd k (front_reach r n.value)) (piece.Places k n None) q (t ∷ ts)
    (next_bit (places.Nth k n r) (Some t) (λ v d e. no_bit ⊥ (λ x. x)) begin_bit month_bit) (λ fits. refl) go

-- the run behind a place, from each reach that the offset has
abbrev GoesOn : Demand → ℕ → Option Offset → List Piece → List TokenKind → Type 0
GoesOn demand k o q ts = (r : ℕ) → ReachesTo r o → Runs demand (places.BracketEnd k r) q ts

one_place : (demand : Demand) (k : ℕ) (o : Option Offset) (r : ℕ) (p q : List Piece) (ts us : List TokenKind)
    → IsPlaces k o p ts q us → ReachesTo r o → GoesOn demand k o q us → Runs demand (places.Bracket k r) p ts
one_place demand k o r p q ts us (IsPlaces.one n e f is suits) reach go =
    renamed demand (places.Bracket k r) p (piece.Places k n None ∷ q) ts (number n ∷ us) f e
    (fit_taken demand (places.Bracket k r) (places.Nth k n r) (piece.Places k n None ∷ q) (number n) us is refl
    (nth_given demand k n r q us (go (front_reach r n.value) (front_reached r n.value o suits reach))))
one_place demand k o r p q ts us (IsPlaces.range a b e f is suits) reach go =
    renamed demand (places.Bracket k r) p (piece.Places k a (Some b) ∷ q) ts (number a ∷ token.Dash ∷ number b ∷ us) f e
    (fit_taken demand (places.Bracket k r) (places.Nth k a r) (piece.Places k a (Some b) ∷ q) (number a)
    (token.Dash ∷ number b ∷ us) is.0 refl
    (sign_taken demand (places.Nth k a r) (places.NthDash k a r) (piece.Places k a (Some b) ∷ q) token.Dash (number b ∷ us)
    (λ x. x) refl
    (fit_completed demand (places.NthDash k a r) (places.BracketEnd k (front_reach r b.value)) (piece.Places k a (Some b)) q
    (number b) us is refl (go (front_reach r b.value) (front_reached r b.value o suits reach)))))
one_place demand k o r p q ts us (IsPlaces.back n e f is suits) reach go =
    renamed demand (places.Bracket k r) p (piece.PlaceBack k n ∷ q) ts (token.Dash ∷ number n ∷ us) f e
    (sign_taken demand (places.Bracket k r) (places.BracketDash k r) (piece.PlaceBack k n ∷ q) token.Dash (number n ∷ us)
    (λ x. x) refl
    (fit_completed demand (places.BracketDash k r) (places.BracketEnd k (back_reach r n.value)) (piece.PlaceBack k n) q
    (number n) us is refl (go (back_reach r n.value) (back_reached r n.value o suits reach))))

more_places : (demand : Demand) (k : ℕ) (o : Option Offset) (later : List Piece) (rest : List TokenKind) (p : List Piece)
    (ts : List TokenKind) → More (IsPlaces k o) later rest p ts → GoesOn demand k o later rest → GoesOn demand k o p ts
more_places demand k o later rest p ts (More.none p' ts' e f) go = λ r reach.
    renamed demand (places.BracketEnd k r) p later ts rest e f (go r reach)
more_places demand k o later rest p ts (More.comma p' q ts' us vs e is more) go = λ r reach.
    subst (Runs demand (places.BracketEnd k r) p) (sym e)
    (sign_taken demand (places.BracketEnd k r) (places.Bracket k r) p token.Comma us (λ x. x) refl
    (one_place demand k o r p q us vs is reach (more_places demand k o later rest q vs more go)))

-- ---- an offset behind brackets

plus_move : (r : ℕ) → 1 ≤ r → next_move (places.PlacesEnd r) (Some token.Plus) false ≡ take (places.OffsetSign false r)
plus_move r le = ap (λ (b : Bool). when b (take (places.OffsetSign false r))) (le-leb 1 r le)

dash_move : (r : ℕ) → 2 ≤ r → next_move (places.PlacesEnd r) (Some token.Dash) false ≡ take (places.OffsetSign true r)
dash_move r le = ap (λ (b : Bool). when b (take (places.OffsetSign true r))) (le-leb 2 r le)

number_runs : (demand : Demand) (before : Bool) (n : Digits) (r : ℕ) (q : List Piece) (us : List TokenKind)
    → IsOffsetNumber n → Reaches r before n.value → Runs demand (places.After stage.Weekdays) q us
    → Runs demand (places.OffsetSign before r) (piece.PlacesEnd (Some (record { is_before = before; days = n })) ∷ q)
    (number n ∷ token.Day ∷ us)
number_runs demand before n r q us is reach go =
    let o : Offset = record { is_before = before; days = n } in
    fit_taken demand (places.OffsetSign before r) (places.OffsetNumber o) (piece.PlacesEnd (Some o) ∷ q) (number n)
    (token.Day ∷ us) (is, reach) refl
    (sign_completed demand (places.OffsetNumber o) (places.After stage.Weekdays) (piece.PlacesEnd (Some o)) q token.Day us
    (λ x. x) refl go)

some_offset : (demand : Demand) (before : Bool) (n : Digits) (r : ℕ) (q : List Piece) (us : List TokenKind)
    → IsOffsetNumber n → Reaches r before n.value → Runs demand (places.After stage.Weekdays) q us
    → Runs demand (places.PlacesEnd r) (piece.PlacesEnd (Some (record { is_before = before; days = n })) ∷ q)
    (sign before ∷ number n ∷ token.Day ∷ us)
some_offset demand true n r q us is reach go =
    sign_taken demand (places.PlacesEnd r) (places.OffsetSign true r)
    (piece.PlacesEnd (Some (record { is_before = true; days = n })) ∷ q) token.Dash (number n ∷ token.Day ∷ us) (λ x. x)
    (dash_move r (omega (arith, reach, is.2))) (number_runs demand true n r q us is reach go)
some_offset demand false n r q us is reach go =
    sign_taken demand (places.PlacesEnd r) (places.OffsetSign false r)
    (piece.PlacesEnd (Some (record { is_before = false; days = n })) ∷ q) token.Plus (number n ∷ token.Day ∷ us) (λ x. x)
    (plus_move r reach) (number_runs demand false n r q us is reach go)

no_offset : (demand : Demand) (r : ℕ) (q : List Piece) (us : List TokenKind) → Runs demand (places.After stage.Weekdays) q us
    → Runs demand (places.PlacesEnd r) (piece.PlacesEnd None ∷ q) us
no_offset demand r q (token.Plus ∷ us) go =
    absurd (no_token demand (places.After stage.Weekdays) q token.Plus us refl (λ fits. refl) go)
no_offset demand r q (token.Dash ∷ us) go =
    absurd (no_token demand (places.After stage.Weekdays) q token.Dash us refl (λ fits. refl) go)
no_offset demand r q [] go =
    given_by demand (places.PlacesEnd r) (places.After stage.Weekdays) (piece.PlacesEnd None) q [] (no_bit ⊥ (λ x. x))
    (λ fits. refl) go
no_offset demand r q (t ∷ us) go =
    given_by demand (places.PlacesEnd r) (places.After stage.Weekdays) (piece.PlacesEnd None) q (t ∷ us)
    (next_bit (places.PlacesEnd r) (Some t) (λ v d e. no_bit ⊥ (λ x. x)) begin_bit month_bit) (λ fits. refl) go

offset_runs : (demand : Demand) (o : Option Offset) (r : ℕ) (q : List Piece) (us : List TokenKind) → IsOffset o
    → ReachesTo r o → Runs demand (places.After stage.Weekdays) q us
    → Runs demand (places.PlacesEnd r) (piece.PlacesEnd o ∷ q) (offset_before o us)
offset_runs demand None r q us is reach go = no_offset demand r q us go
offset_runs demand (Some o) r q us is reach go = some_offset demand o.is_before o.days r q us is reach go

brackets_end : (demand : Demand) (k : ℕ) (o : Option Offset) (q : List Piece) (us : List TokenKind) → IsOffset o
    → Runs demand (places.After stage.Weekdays) q us
    → GoesOn demand k o (piece.PlacesEnd o ∷ q) (token.CloseBracket ∷ offset_before o us)
brackets_end demand k o q us is go = λ r reach.
    sign_taken demand (places.BracketEnd k r) (places.PlacesEnd r) (piece.PlacesEnd o ∷ q) token.CloseBracket
    (offset_before o us) (λ x. x) refl (offset_runs demand o r q us is reach go)

-- ---- weekdays

weekday_given : (demand : Demand) (k : ℕ) (q : List Piece) (ts : List TokenKind) → Runs demand (places.After stage.Weekdays) q ts
    → Runs demand (places.Weekday k) (piece.Weekdays k None ∷ q) ts
weekday_given demand k q (token.Dash ∷ ts) go =
    absurd (no_token demand (places.After stage.Weekdays) q token.Dash ts refl (λ fits. refl) go)
weekday_given demand k q (token.OpenBracket ∷ ts) go =
    absurd (no_token demand (places.After stage.Weekdays) q token.OpenBracket ts refl (λ fits. refl) go)
weekday_given demand k q [] go =
    given_by demand (places.Weekday k) (places.After stage.Weekdays) (piece.Weekdays k None) q [] (no_bit ⊥ (λ x. x))
    (λ fits. refl) go
weekday_given demand k q (t ∷ ts) go =
    given_by demand (places.Weekday k) (places.After stage.Weekdays) (piece.Weekdays k None) q (t ∷ ts)
    (next_bit (places.Weekday k) (Some t) (λ v d e. no_bit ⊥ (λ x. x)) begin_bit month_bit) (λ fits. refl) go

-- one that begins with a weekday, and runs on behind it
pub record WeekdayBegins (demand : Demand) (p : List Piece) (ts : List TokenKind) : Type 0 where
  pub k : ℕ
  pub us : List TokenKind
  pub tokens : ts ≡ token.Weekday k ∷ us
  pub is : IsWeekday k
  pub runs : Runs demand (places.Weekday k) p us

pub weekdays_begin : (demand : Demand) (p q : List Piece) (ts us : List TokenKind) → IsWeekdays p ts q us
    → Runs demand (places.After stage.Weekdays) q us → WeekdayBegins demand p ts
weekdays_begin demand p q ts us (IsWeekdays.one k e f is) go = record {
  k = k;
  us = us;
  tokens = e;
  is = is;
  runs = renamed demand (places.Weekday k) p (piece.Weekdays k None ∷ q) us us f refl (weekday_given demand k q us go);
}
weekdays_begin demand p q ts us (IsWeekdays.range a b e f is also) go = record {
  k = a;
  us = token.Dash ∷ token.Weekday b ∷ us;
  tokens = e;
  is = is;
  runs = sign_taken demand (places.Weekday a) (places.WeekdayDash a) p token.Dash (token.Weekday b ∷ us) (λ x. x) refl
      (renamed demand (places.WeekdayDash a) p (piece.Weekdays a (Some b) ∷ q) (token.Weekday b ∷ us) (token.Weekday b ∷ us) f
      refl
      (fit_completed demand (places.WeekdayDash a) (places.After stage.Weekdays) (piece.Weekdays a (Some b)) q (token.Weekday b)
      us
      also refl go));
}
weekdays_begin demand p q ts us (IsWeekdays.places k o vs e is offset l) go = record {
  k = k;
  us = token.OpenBracket ∷ vs;
  tokens = e;
  is = is;
  runs = sign_taken demand (places.Weekday k) (places.Bracket k 28) p token.OpenBracket vs (λ x. x) refl
      (one_place demand k o 28 p l.q vs l.us l.one (far o offset)
      (more_places demand k o (piece.PlacesEnd o ∷ q) (token.CloseBracket ∷ offset_before o us) l.q l.us l.more
      (brackets_end demand k o q us offset go)));
}

next_weekday : (demand : Demand) (p q : List Piece) (ts us : List TokenKind) → IsWeekdays p ts q us
    → Runs demand (places.After stage.Weekdays) q us → Runs demand (places.Comma stage.Weekdays) p ts
next_weekday demand p q ts us is go =
    let b = weekdays_begin demand p q ts us is go in
    subst (Runs demand (places.Comma stage.Weekdays) p) (sym b.tokens)
    (fit_taken demand (places.Comma stage.Weekdays) (places.Weekday b.k) p (token.Weekday b.k) b.us b.is refl b.runs)

-- a list of weekdays
pub weekdays_run : (demand : Demand) (p later : List Piece) (ts rest : List TokenKind) → Listed IsWeekdays p ts later rest
    → Runs demand (places.After stage.Weekdays) later rest → WeekdayBegins demand p ts
weekdays_run demand p later ts rest l go =
    weekdays_begin demand p l.q ts l.us l.one
    (more_runs demand IsWeekdays (places.After stage.Weekdays) (places.Comma stage.Weekdays) (next_weekday demand)
    (comma_runs demand stage.Weekdays) later rest l.q l.us l.more go)

-- ---- times

-- one that begins with a time, and runs on behind it
pub record TimeBegins (demand : Demand) (p : List Piece) (ts : List TokenKind) : Type 0 where
  pub t : ClockTime
  pub us : List TokenKind
  pub tokens : ts ≡ time t ∷ us
  pub is : IsBegin t
  pub runs : Runs demand (places.Time t) p us

times_begin : (demand : Demand) (p q : List Piece) (ts us : List TokenKind) → IsTimes p ts q us
    → Runs demand (places.After stage.Times) q us → TimeBegins demand p ts
times_begin demand p q ts us is go = record {
  t = is.begin;
  us = token.Dash ∷ time is.last ∷ us;
  tokens = is.tokens;
  is = is.range.0;
  runs = sign_taken demand (places.Time is.begin) (places.TimeDash is.begin) p token.Dash (time is.last ∷ us) (λ x. x) refl
      (subst (λ (l : List Piece). Runs demand (places.TimeDash is.begin) l (time is.last ∷ us)) (sym is.pieces)
      (fit_completed demand (places.TimeDash is.begin) (places.After stage.Times) (piece.Times is.begin is.last) q (time is.last)
      us
      is.range refl go));
}

next_times : (demand : Demand) (p q : List Piece) (ts us : List TokenKind) → IsTimes p ts q us
    → Runs demand (places.After stage.Times) q us → Runs demand (places.Comma stage.Times) p ts
next_times demand p q ts us is go =
    let b = times_begin demand p q ts us is go in
    subst (Runs demand (places.Comma stage.Times) p) (sym b.tokens)
    (fit_taken demand (places.Comma stage.Times) (places.Time b.t) p (time b.t) b.us b.is refl b.runs)

-- a list of times
pub times_run : (demand : Demand) (p later : List Piece) (ts rest : List TokenKind) → Listed IsTimes p ts later rest
    → Runs demand (places.After stage.Times) later rest → TimeBegins demand p ts
times_run demand p later ts rest l go =
    times_begin demand p l.q ts l.us l.one
    (more_runs demand IsTimes (places.After stage.Times) (places.Comma stage.Times) (next_times demand)
    (comma_runs demand stage.Times) later rest l.q l.us l.more go)
