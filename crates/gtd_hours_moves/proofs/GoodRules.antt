-- Which moves are right at the beginning of a rule, and behind a part of one.
use Rattle.std.proofs.Common.{◌≡◌, ℕ, Bool, true, false, Option, Some, None, List, ◌∷◌, IfSome, refl, subst, sym, arith, rules}
use Rattle.gtd_hours.specs.declared.hours.Link.TheVariants as link
use Rattle.gtd_hours_tokens.specs.declared.token.TokenKind.TheVariants as token
use Rattle.gtd_hours_moves.specs.Terms.{TokenKind, Piece, Stage, Place, Move}
use Rattle.gtd_hours_parts.specs.declared.piece.Piece.TheVariants as piece
use Rattle.gtd_hours_moves.specs.declared.stage.Stage.TheVariants as stage
use Rattle.gtd_hours_moves.specs.declared.place.Place.TheVariants as places
use Rattle.gtd_hours_moves.specs.Grammar.{Demand, Follow, IsOne, More, goes_on, list_goes_on, precedes}
use Rattle.gtd_hours_moves.specs.Places.{Behind, From, Rest}
use Rattle.gtd_hours_moves.specs.Sound.{Fits, IsPlace, ListedFits}
use Rattle.gtd_hours_moves.specs.Moves.{clock, listed_number, next_goes_on, written}
use Rattle.gtd_hours_moves.specs.Runs.{IsGood, IsLater, from, with_piece}
use Rattle.gtd_hours_moves.proofs.GoodLemmas.{behind, completes, gives, month_days_follow, sign_good, takes_to, times_follow}
use Rattle.gtd_hours_moves.proofs.GoodLemmas.{token_good, weekdays_follow, weeks_follow}

-- ---- stages without a list

none_follow : (d : Demand) (s : Stage)
    → ((p : List Piece) (ts : List TokenKind) (q : List Piece) (us : List TokenKind) → IsOne d s p ts q us → ⊥)
    → (p : List Piece) (ts : List TokenKind) (later : List Piece) (rest : List TokenKind)
    → More (IsOne d s) later rest p ts → Follow d s later rest → Follow d s p ts
none_follow d s no_list _ _ later rest (More.none p ts pieces tokens) follow =
    subst (λ x. Follow d s x ts) (sym pieces) (subst (λ x. Follow d s later x) (sym tokens) follow)
none_follow d s no_list _ _ later rest (More.comma p q ts us vs tokens one more) follow = absurd (no_list p us q vs one)

behind_always : (d : Demand) (p : List Piece) (ts : List TokenKind) → Behind d stage.Always p ts → Follow d stage.Always p ts
behind_always d p ts b = none_follow d stage.Always (λ a b x y one. one) p ts b.later b.rest b.more b.follow

behind_colon : (d : Demand) (p : List Piece) (ts : List TokenKind) → Behind d stage.Colon p ts → Follow d stage.Colon p ts
behind_colon d p ts b = none_follow d stage.Colon (λ a b x y one. one) p ts b.later b.rest b.more b.follow

behind_modifier : (d : Demand) (p : List Piece) (ts : List TokenKind) → Behind d stage.Modifier p ts
    → Follow d stage.Modifier p ts
behind_modifier d p ts b = none_follow d stage.Modifier (λ a b x y one. one) p ts b.later b.rest b.more b.follow

-- ---- a later part of a rule

token_later : (s : Stage) (next : Option TokenKind) (t : TokenKind) (fits : Bool) (move : Move) → next ≡ Some t → fits ≡ true
    → (fits ≡ true → Fits (places.After s) next) → (Fits (places.After s) (Some t) → IsLater s (Some t) move)
    → IsLater s next move
token_later s next t fits move same holds fit good =
    subst (λ n. IsLater s n move) (sym same) (good (subst (Fits (places.After s)) same (fit holds)))

pub later_month : (s : Stage) (m : ℕ) (next : Option TokenKind) (fits : Bool) → next ≡ Some (token.Month m) → fits ≡ true
    → (fits ≡ true → Fits (places.After s) next) → precedes s stage.MonthDays ≡ true
    → IsLater s next (completes piece.Kind (places.Month m))
later_month s m next fits same holds fit before =
    token_later s next (token.Month m) fits (completes piece.Kind (places.Month m)) same holds fit λ sound. record {
      leads = λ d p ts rest. month_days_follow d s p (token.Month m ∷ ts) before rest;
      stands = sound;
      takes = refl;
    }

pub later_week : (s : Stage) (next : Option TokenKind) → next ≡ Some token.Week → precedes s stage.Weeks ≡ true
    → IsLater s next (completes piece.Kind places.WeekWord)
later_week s next same before = subst (λ n. IsLater s n (completes piece.Kind places.WeekWord)) (sym same) (record {
  leads = λ d p ts rest. weeks_follow d s p ts before rest;
  stands = search rules;
  takes = refl;
})

pub later_weekday : (s : Stage) (k : ℕ) (next : Option TokenKind) (fits : Bool) → next ≡ Some (token.Weekday k) → fits ≡ true
    → (fits ≡ true → Fits (places.After s) next) → precedes s stage.Weekdays ≡ true
    → IsLater s next (completes piece.Kind (places.Weekday k))
later_weekday s k next fits same holds fit before =
    token_later s next (token.Weekday k) fits (completes piece.Kind (places.Weekday k)) same holds fit λ sound. record {
      leads = λ d p ts rest. weekdays_follow d s p (token.Weekday k ∷ ts) before rest;
      stands = sound;
      takes = refl;
    }

pub later_time : (s : Stage) (h m : ℕ) (next : Option TokenKind) (fits : Bool) → next ≡ Some (token.Time h m) → fits ≡ true
    → (fits ≡ true → Fits (places.After s) next) → precedes s stage.Times ≡ true
    → IsLater s next (takes_to (places.Time (clock h m)))
later_time s h m next fits same holds fit before =
    token_later s next (token.Time h m) fits (takes_to (places.Time (clock h m))) same holds fit λ sound. record {
      leads = λ d p ts rest. times_follow d s p (token.Time h m ∷ ts) before rest;
      stands = sound;
      takes = refl;
    }

pub later_open : (s : Stage) (next : Option TokenKind) → next ≡ Some token.Open → precedes s stage.Modifier ≡ true
    → IsLater s next (takes_to (places.After stage.Modifier))
later_open s next same before = subst (λ n. IsLater s n (takes_to (places.After stage.Modifier))) (sym same) (record {
  leads = λ d p ts rest. Follow.opens s p (token.Open ∷ ts) ts before refl (behind_modifier d p ts rest);
  stands = refl;
  takes = refl;
})

pub later_closed : (s : Stage) (next : Option TokenKind) → next ≡ Some token.Closed → precedes s stage.Modifier ≡ true
    → IsLater s next (completes piece.Closed (places.After stage.Modifier))
later_closed s next same before =
    subst (λ n. IsLater s n (completes piece.Closed (places.After stage.Modifier))) (sym same) (record {
      leads = λ d p ts rest. Follow.closes s (piece.Closed ∷ p) p (token.Closed ∷ ts) ts before refl refl
          (behind_modifier d p ts rest);
      stands = refl;
      takes = refl;
    })

-- ---- the beginning of a rule

pub always_good : (v c : ℕ) (next : Option TokenKind) (fits : Bool) → next ≡ Some (token.Number v c) → fits ≡ true
    → (fits ≡ true → Fits places.TwentyFourSlash next)
    → IsGood places.TwentyFourSlash next (takes_to (places.After stage.Always))
always_good v c next fits same holds fit =
    token_good places.TwentyFourSlash next (token.Number v c) fits (takes_to (places.After stage.Always)) same holds fit
    λ seven. record {
      leads = λ d p ts rest. Follow.always stage.Front p
          (token.Number 24 2 ∷ token.Slash ∷ token.Number v c ∷ ts) ts refl (rw (seven.0, seven.1) refl)
          (behind_always d p ts rest);
      stands = refl;
      nearer = λ h. absurd cc;
    }

-- ---- behind a part of a rule

pub after_later_good : (s : Stage) (next : Option TokenKind) (m : Option Move) → IfSome m (λ move. IsLater s next move)
    → IfSome m (λ move. IsGood (places.After s) next move)
after_later_good s next None l = l
after_later_good s next (Some move) l = record {
  leads = λ d p ts rest. behind d s (with_piece move.piece p) (from next ts) (l.leads d p ts rest);
  stands = l.stands;
  nearer = λ h. absurd (let t = l.takes in cc);
}

pub after_semicolon_good : (s : Stage) (next : Option TokenKind) → next ≡ Some token.Semicolon
    → precedes stage.Front s ≡ true → IsGood (places.After s) next (completes (piece.Rule link.Instead) places.Front)
after_semicolon_good s next same begun =
    sign_good (places.After s) next token.Semicolon (completes (piece.Rule link.Instead) places.Front) same (record {
      leads = λ d p ts rest. behind d s (piece.Rule link.Instead ∷ p) (token.Semicolon ∷ ts)
          (Follow.instead s (piece.Rule link.Instead ∷ p) p (token.Semicolon ∷ ts) ts begun refl refl rest);
      stands = search rules;
      nearer = λ h. absurd cc;
    })

pub after_colon_good : (s : Stage) (next : Option TokenKind) → next ≡ Some token.Colon → precedes stage.Front s ≡ true
    → precedes s stage.Colon ≡ true → IsGood (places.After s) next (takes_to (places.After stage.Colon))
after_colon_good s next same begun before =
    sign_good (places.After s) next token.Colon (takes_to (places.After stage.Colon)) same (record {
      leads = λ d p ts rest. behind d s p (token.Colon ∷ ts)
          (Follow.colon s p (token.Colon ∷ ts) ts begun before refl (behind_colon d p ts rest));
      stands = refl;
      nearer = λ h. absurd cc;
    })

pub after_year_good : (s : Stage) (v c : ℕ) (next : Option TokenKind) (fits : Bool) → next ≡ Some (token.Number v c)
    → fits ≡ true → (fits ≡ true → Fits (places.After s) next) → precedes s stage.MonthDays ≡ true
    → IsGood (places.After s) next (completes piece.Kind (places.DateYear (written v c)))
after_year_good s v c next fits same holds fit before =
    token_good (places.After s) next (token.Number v c) fits (completes piece.Kind (places.DateYear (written v c))) same holds
    fit λ sound. record {
      leads = λ d p ts rest. behind d s (piece.Kind ∷ p) (token.Number v c ∷ ts)
          (month_days_follow d s p (token.Number v c ∷ ts) before rest);
      stands = sound;
      nearer = λ h. absurd cc;
    }

-- ---- behind a comma

from_comma : (d : Demand) (s : Stage) (p : List Piece) (ts : List TokenKind) → From d s p ts → Behind d s p (token.Comma ∷ ts)
from_comma d s p ts f = record {
  later = f.behind.later;
  rest = f.behind.rest;
  more = More.comma p f.later (token.Comma ∷ ts) ts f.rest refl f.one f.behind.more;
  follow = f.behind.follow;
}

no_more : (s : Stage) (next : Option TokenKind) (ts : List TokenKind) → next_goes_on s next ≡ false
    → list_goes_on s (from next ts) ≡ false
no_more s None ts ends = refl
no_more s (Some t) ts ends = ends

pub also_good : (s : Stage) (next : Option TokenKind) → precedes stage.Front s ≡ true → next_goes_on s next ≡ false
    → IsGood (places.Comma s) next (gives (piece.Rule link.Also) places.Front)
also_good s next begun ends = record {
  leads = λ d p ts rest. behind d s (piece.Rule link.Also ∷ p) (token.Comma ∷ from next ts)
      (Follow.also s (piece.Rule link.Also ∷ p) p (token.Comma ∷ from next ts) (from next ts) begun refl
      (no_more s next ts ends) refl rest);
  stands = search rules;
  nearer = λ h. omega arith;
}

number_listed : (s : Stage) (v c : ℕ) → ListedFits s (written v c)
    → IfSome (listed_number s (written v c)) (λ move. IsGood (places.Comma s) (Some (token.Number v c)) move)
number_listed stage.Years v c fit = record {
  leads = λ d p ts rest. from_comma d stage.Years p (token.Number v c ∷ ts) rest;
  stands = fit;
  nearer = λ h. absurd cc;
}
number_listed stage.MonthDays v c fit = record {
  leads = λ d p ts rest. from_comma d stage.MonthDays p (token.Number v c ∷ ts) rest;
  stands = fit;
  nearer = λ h. absurd cc;
}
number_listed stage.Weeks v c fit = record {
  leads = λ d p ts rest. from_comma d stage.Weeks p (token.Number v c ∷ ts) rest;
  stands = fit;
  nearer = λ h. absurd cc;
}
number_listed stage.Front v c fit = absurd fit
number_listed stage.Colon v c fit = absurd fit
number_listed stage.Weekdays v c fit = absurd fit
number_listed stage.Times v c fit = absurd fit
number_listed stage.Always v c fit = absurd fit
number_listed stage.Modifier v c fit = absurd fit

pub listed_number_good : (s : Stage) (v c : ℕ) (next : Option TokenKind) (fits : Bool) → next ≡ Some (token.Number v c)
    → fits ≡ true → (fits ≡ true → Fits (places.Comma s) next)
    → IfSome (listed_number s (written v c)) (λ move. IsGood (places.Comma s) next move)
listed_number_good s v c next fits same holds fit =
    subst (λ n. IfSome (listed_number s (written v c)) (λ move. IsGood (places.Comma s) n move)) (sym same)
    (number_listed s v c (subst (Fits (places.Comma s)) same (fit holds)))

-- a token that goes on with the list of one stage alone
month_stage : (s : Stage) (m : ℕ) → goes_on s (token.Month m) ≡ true → s ≡ stage.MonthDays
month_stage stage.MonthDays m on = refl
month_stage stage.Front m on = absurd cc
month_stage stage.Years m on = absurd cc
month_stage stage.Weeks m on = absurd cc
month_stage stage.Colon m on = absurd cc
month_stage stage.Weekdays m on = absurd cc
month_stage stage.Times m on = absurd cc
month_stage stage.Always m on = absurd cc
month_stage stage.Modifier m on = absurd cc

weekday_stage : (s : Stage) (k : ℕ) → goes_on s (token.Weekday k) ≡ true → s ≡ stage.Weekdays
weekday_stage stage.Weekdays k on = refl
weekday_stage stage.Front k on = absurd cc
weekday_stage stage.Years k on = absurd cc
weekday_stage stage.MonthDays k on = absurd cc
weekday_stage stage.Weeks k on = absurd cc
weekday_stage stage.Colon k on = absurd cc
weekday_stage stage.Times k on = absurd cc
weekday_stage stage.Always k on = absurd cc
weekday_stage stage.Modifier k on = absurd cc

time_stage : (s : Stage) (h m : ℕ) → goes_on s (token.Time h m) ≡ true → s ≡ stage.Times
time_stage stage.Times h m on = refl
time_stage stage.Front h m on = absurd cc
time_stage stage.Years h m on = absurd cc
time_stage stage.MonthDays h m on = absurd cc
time_stage stage.Weeks h m on = absurd cc
time_stage stage.Colon h m on = absurd cc
time_stage stage.Weekdays h m on = absurd cc
time_stage stage.Always h m on = absurd cc
time_stage stage.Modifier h m on = absurd cc

-- behind a comma, one of the list of a stage begins
listed_good : (s list : Stage) (next : Option TokenKind) (t : TokenKind) (fits : Bool) (to : Place) → s ≡ list
    → next ≡ Some t → fits ≡ true → (fits ≡ true → Fits (places.Comma s) next)
    → ((d : Demand) (p : List Piece) (ts : List TokenKind) → Rest d to p ts → From d list p (t ∷ ts))
    → (Fits (places.Comma s) (Some t) → IsPlace to) → IsGood (places.Comma s) next (takes_to to)
listed_good s list next t fits to at same holds fit begins sound =
    token_good (places.Comma s) next t fits (takes_to to) same holds fit λ f. record {
      leads = λ d p ts rest. from_comma d s p (t ∷ ts) (subst (λ x. From d x p (t ∷ ts)) (sym at) (begins d p ts rest));
      stands = sound f;
      nearer = λ h. absurd cc;
    }

pub listed_month_good : (s : Stage) (m : ℕ) (next : Option TokenKind) (fits : Bool) → next ≡ Some (token.Month m)
    → fits ≡ true → (fits ≡ true → Fits (places.Comma s) next) → next_goes_on s next ≡ true
    → IsGood (places.Comma s) next (takes_to (places.Month m))
listed_month_good s m next fits same holds fit on =
    listed_good s stage.MonthDays next (token.Month m) fits (places.Month m)
    (month_stage s m (subst (λ n. next_goes_on s n ≡ true) same on)) same holds fit (λ d p ts rest. rest) (λ f. f)

pub listed_weekday_good : (s : Stage) (k : ℕ) (next : Option TokenKind) (fits : Bool) → next ≡ Some (token.Weekday k)
    → fits ≡ true → (fits ≡ true → Fits (places.Comma s) next) → next_goes_on s next ≡ true
    → IsGood (places.Comma s) next (takes_to (places.Weekday k))
listed_weekday_good s k next fits same holds fit on =
    listed_good s stage.Weekdays next (token.Weekday k) fits (places.Weekday k)
    (weekday_stage s k (subst (λ n. next_goes_on s n ≡ true) same on)) same holds fit (λ d p ts rest. rest) (λ f. f)

pub listed_time_good : (s : Stage) (h m : ℕ) (next : Option TokenKind) (fits : Bool) → next ≡ Some (token.Time h m)
    → fits ≡ true → (fits ≡ true → Fits (places.Comma s) next) → next_goes_on s next ≡ true
    → IsGood (places.Comma s) next (takes_to (places.Time (clock h m)))
listed_time_good s h m next fits same holds fit on =
    listed_good s stage.Times next (token.Time h m) fits (places.Time (clock h m))
    (time_stage s h m (subst (λ n. next_goes_on s n ≡ true) same on)) same holds fit (λ d p ts rest. rest) (λ f. f)
