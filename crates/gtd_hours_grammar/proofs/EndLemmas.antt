-- What a reading comes to where no move can be made.
use Rattle.std.proofs.Common.{◌≡◌, ℕ, Bool, true, false, List, [], ◌∷◌, ◌++◌, length, Option, Some, None, Ok}
use Rattle.std.proofs.Common.{refl, sym, ap, subst, ◌∙◌, append_assoc}
use Rattle.std.specs.Prelude.{IfErr, if◌then◌else◌}
use Rattle.std.proofs.lemmas.Bool.{eq-eqb, eqb-true}
use Rattle.std.proofs.lemmas.List.{append-nil}
use Rattle.gtd_hours_tokens.specs.Lexing.{AreTokens, IsNext}
use Rattle.gtd_hours_tokens.specs.declared.token.TokenKind.TheVariants as token
use Rattle.gtd_hours_grammar.specs.declared.fault.FaultKind.{FaultKind}
use Rattle.gtd_hours_grammar.specs.declared.fault.FaultKind.TheVariants as fault
use Rattle.gtd_hours_moves.specs.Terms.{Token, TokenKind, Piece}
use Rattle.gtd_hours_moves.specs.declared.place.Place.{Place}
use Rattle.gtd_hours_moves.specs.declared.stage.Stage.TheVariants as stage
use Rattle.gtd_hours_moves.specs.declared.place.Place.TheVariants as places
use Rattle.gtd_hours_grammar.specs.declared.reading.Reading.{Reading}
use Rattle.gtd_hours_moves.specs.Grammar.{AreHours, CanGoOn, Demand, Follow, More, in_full, so_far}
use Rattle.gtd_hours_moves.specs.Grammar.{by_place, with_years}
use Rattle.gtd_hours_grammar.specs.Faults.{FitsByPlace, IsFirstFault, IsHoursText, IsMisfitKind, are_alike, dash_kind}
use Rattle.gtd_hours_grammar.specs.Faults.{NeedsYears, day_kind, is_offset, is_told_before, kind_before, kinds}
use Rattle.gtd_hours_grammar.specs.Faults.{last_from, last_kind, plus_kind, told_at, weekday_kind}
use Rattle.gtd_hours_grammar.specs.Kinds.{misfit_of, number_misfit, place_of, range_if}
use Rattle.gtd_hours_moves.specs.Places.{Rest}
use Rattle.gtd_hours_moves.specs.Places.BehindDate.{none}
use Rattle.gtd_hours_moves.specs.Sound.{IsPlace, takes_number, takes_time}
use Rattle.gtd_hours_moves.specs.Runs.{Runs, is_after, is_judged}
use Rattle.gtd_hours_grammar.specs.Steps.{GivesTo, IsMove, IsTokenReading, end_or_fault, ended, fault_at, kind_of}
use Rattle.gtd_hours_moves.specs.facts.RunSteps.{run_end_refused, run_refused, unjudged_refused}
use Rattle.gtd_hours_moves.specs.facts.FollowRuns.{follow_runs}
use Rattle.gtd_hours_grammar.proofs.NoNext.{no_number, no_time}
use Rattle.gtd_hours_grammar.proofs.Endings.{JudgedEnding, ending, month_ending, number_ending, slash_ending}
use Rattle.gtd_hours_grammar.proofs.Endings.{time_ending, years_ending}
use Rattle.gtd_hours_grammar.proofs.ReadLemmas.{known, none_later, same_next, split_later, tails}

-- ---- the end

rest_ends : (at : Place) → is_after at ≡ true → IsPlace at → Rest in_full at [] []
rest_ends (places.After s) e h =
    record { later = []; rest = []; more = More.none [] [] refl refl; follow = Follow.ends s [] [] h refl refl }
rest_ends (places.AfterDate year m) e h =
    let follow = Follow.ends stage.MonthDays [] [] refl refl refl in
    none (record { later = []; rest = []; more = More.none [] [] refl refl; follow = follow })
rest_ends at e h = absurd cc

pub all_read : (text : List ℕ) (r : Reading) (given : List Piece) → IsTokenReading text r given → IsNext text r.place (Ok None)
    → is_after r.at ≡ true → IsHoursText text given
all_read text r given is h e =
    let none_left = none_later is.read.later (same_next text r.place is.read.later None is.read.reads h) in
    let gives = subst (λ (n : Option TokenKind). GivesTo r.behind r.at n is.two) (known text r given is None h) is.gives in
    let behind = gives.leads in_full [] [] (rest_ends r.at e is.stands) in
    let front = is.read.leads in_full (is.two ++ []) [] behind in
    record {
      tokens = is.read.before;
      are = subst (λ (l : List Token). AreTokens text l)
          (ap (λ (l : List Token). is.read.before ++ l) none_left ∙ append-nil is.read.before) is.read.are;
      hours = subst (λ (l : List TokenKind). AreHours given l) (append-nil (kinds is.read.before))
          (subst (λ (q : List Piece). AreHours q (kinds is.read.before ++ []))
          (ap (λ (q : List Piece). is.one ++ q) (append-nil is.two) ∙ sym is.whole) front);
    }

can_go_on : (text : List ℕ) (r : Reading) (given : List Piece) → (is : IsTokenReading text r given) → IsPlace r.behind
    → CanGoOn (kinds is.read.before)
can_go_on text r given is stands =
    let end = ending r.behind stands in
    record { p = is.one ++ end.p; after = end.ts; follow = is.read.leads so_far end.p end.ts end.rest }

pub incomplete : (text : List ℕ) (r : Reading) (given : List Piece) → IsTokenReading text r given → IsNext text r.place (Ok None)
    → IsMove r.at None None → is_after r.at ≡ false
    → IsFirstFault text (record { kind = fault.Incomplete; place = length text })
incomplete text r given is h goes e =
    let none_left = none_later is.read.later (same_next text r.place is.read.later None is.read.reads h) in
    let gives = subst (λ (n : Option TokenKind). GivesTo r.behind r.at n is.two) (known text r given is None h) is.gives in
    IsFirstFault.incomplete (record {
      tokens = is.read.before;
      are = subst (λ (l : List Token). AreTokens text l)
          (ap (λ (l : List Token). is.read.before ++ l) none_left ∙ append-nil is.read.before) is.read.are;
      goes = can_go_on text r given is is.read.stands;
      no_hours = λ p hours.
          let run = follow_runs in_full p (kinds is.read.before) hours in
          let all = subst (λ (l : List TokenKind). Runs in_full places.Front p l) (sym (append-nil (kinds is.read.before))) run in
          let behind = is.read.runs in_full p [] all in
          let at = gives.runs in_full behind.p [] behind.runs in
          run_end_refused r.at at.p goes.fits e goes.bit (sym goes.computed) at.runs;
      kind = refl;
      place = refl;
    })

-- ---- a token that does not go on

first_runs : (before : List TokenKind) (t : TokenKind) (after : List TokenKind)
    → (before ++ t ∷ []) ++ after ≡ before ++ t ∷ after
first_runs before t after = append_assoc before (t ∷ []) after

number_never : (text : List ℕ) (r : Reading) (given : List Piece) (is : IsTokenReading text r given) (v d : ℕ) (other : TokenKind)
    → are_alike (token.Number v d) other ≡ true → takes_number r.behind ≡ false → (p : List Piece) → (after : List TokenKind)
    → Follow by_place stage.Front p (kinds is.read.before ++ other ∷ after) → ⊥
number_never text r given is v d (token.Number w c) alike e p after follow =
    let run = follow_runs by_place p (kinds is.read.before ++ token.Number w c ∷ after) follow in
    let behind = is.read.runs by_place p (token.Number w c ∷ after) run in
    no_number by_place r.behind behind.p w c after e behind.runs
number_never text r given is v d other alike e p after follow = absurd cc

time_never : (text : List ℕ) (r : Reading) (given : List Piece) (is : IsTokenReading text r given) (h m : ℕ) (other : TokenKind)
    → are_alike (token.Time h m) other ≡ true → takes_time r.behind ≡ false → (p : List Piece) → (after : List TokenKind)
    → Follow by_place stage.Front p (kinds is.read.before ++ other ∷ after) → ⊥
time_never text r given is h m (token.Time g n) alike e p after follow =
    let run = follow_runs by_place p (kinds is.read.before ++ token.Time g n ∷ after) follow in
    let behind = is.read.runs by_place p (token.Time g n ∷ after) run in
    no_time by_place r.behind behind.p g n after e behind.runs
time_never text r given is h m other alike e p after follow = absurd cc

-- another number, where one fits
number_fits : (text : List ℕ) (r : Reading) (given : List Piece) (is : IsTokenReading text r given) (v d : ℕ)
    → takes_number r.behind ≡ true → FitsByPlace (kinds is.read.before) (token.Number v d)
number_fits text r given is v d e =
    let end = number_ending r.behind is.read.stands e in
    record {
      other = token.Number end.v end.d;
      alike = refl;
      p = is.one ++ end.p;
      after = end.ts;
      follow = is.read.leads by_place end.p (token.Number end.v end.d ∷ end.ts) end.rest;
    }

time_kind : (text : List ℕ) (r : Reading) (given : List Piece) (is : IsTokenReading text r given) (h m : ℕ) (b : Bool)
    → takes_time r.behind ≡ b → IsMisfitKind (kinds is.read.before) (token.Time h m) (range_if b)
time_kind text r given is h m true e =
    let end = time_ending r.behind is.read.stands e in
    record {
      other = token.Time end.h end.m;
      alike = refl;
      p = is.one ++ end.p;
      after = end.ts;
      follow = is.read.leads by_place end.p (token.Time end.h end.m ∷ end.ts) end.rest;
    }
time_kind text r given is h m false e =
    λ fits. time_never text r given is h m fits.other fits.alike e fits.p fits.after fits.follow

-- a token that is judged by its place
judged_never : (demand : Demand) (text : List ℕ) (r : Reading) (given : List Piece) (t : Token) (is : IsTokenReading text r given)
    (k : TokenKind) → t.kind ≡ k → IsNext text r.place (Ok (Some t)) → IsMove r.at (Some k) None
    → is_judged r.at k demand ≡ false → (p : List Piece) → (after : List TokenKind)
    → Follow demand stage.Front p (kinds is.read.before ++ k ∷ after) → ⊥
judged_never demand text r given t is k same h goes e p after follow =
    let run = follow_runs demand p (kinds is.read.before ++ k ∷ after) follow in
    let behind = is.read.runs demand p (k ∷ after) run in
    let gives = subst (λ (n : Option TokenKind). GivesTo r.behind r.at n is.two)
    (known text r given is (Some t) h ∙ ap (λ (x : TokenKind). Some x) same) is.gives in
    let at = gives.runs demand behind.p after behind.runs in
    unjudged_refused demand r.at at.p k after goes.fits e goes.bit (sym goes.computed) at.runs

judged_follow : (demand : Demand) (text : List ℕ) (r : Reading) (given : List Piece) (t : Token)
    (is : IsTokenReading text r given) (k : TokenKind)
    → t.kind ≡ k → IsNext text r.place (Ok (Some t)) → (end : JudgedEnding demand r.at k)
    → Follow demand stage.Front (is.one ++ (is.two ++ end.p)) (kinds is.read.before ++ k ∷ [])
judged_follow demand text r given t is k same h end =
    let gives = subst (λ (n : Option TokenKind). GivesTo r.behind r.at n is.two)
    (known text r given is (Some t) h ∙ ap (λ (x : TokenKind). Some x) same) is.gives in
    is.read.leads demand (is.two ++ end.p) (k ∷ []) (gives.leads demand end.p [] end.rest)

judged_fits : (text : List ℕ) (r : Reading) (given : List Piece) (t : Token) (is : IsTokenReading text r given) (k : TokenKind)
    → t.kind ≡ k → IsNext text r.place (Ok (Some t)) → are_alike k k ≡ true → JudgedEnding by_place r.at k
    → FitsByPlace (kinds is.read.before) k
judged_fits text r given t is k same h alike end = record {
  other = k;
  alike = alike;
  p = is.one ++ (is.two ++ end.p);
  after = [];
  follow = judged_follow by_place text r given t is k same h end;
}

-- a number: a step of too many years, another one where one fits, and one where none does
unneeded : (text : List ℕ) (r : Reading) (given : List Piece) (t : Token) (is : IsTokenReading text r given) (v d : ℕ)
    → t.kind ≡ token.Number v d → IsNext text r.place (Ok (Some t)) → IsMove r.at (Some (token.Number v d)) None
    → is_judged r.at (token.Number v d) with_years ≡ false → NeedsYears (kinds is.read.before) (token.Number v d) → ⊥
unneeded text r given t is v d same h goes e needs =
    judged_never with_years text r given t is (token.Number v d) same h goes e needs.p [] needs.follow

number_kind : (text : List ℕ) (r : Reading) (given : List Piece) (t : Token) (is : IsTokenReading text r given) (v d : ℕ)
    (many b : Bool) → t.kind ≡ token.Number v d → IsNext text r.place (Ok (Some t)) → IsMove r.at (Some (token.Number v d)) None
    → is_judged r.at (token.Number v d) with_years ≡ many → takes_number r.behind ≡ b
    → IsMisfitKind (kinds is.read.before) (token.Number v d) (number_misfit many b)
number_kind text r given t is v d true b same h goes e f =
    let end = years_ending r.at v d is.stands e in
    record {
      p = is.one ++ (is.two ++ end.p);
      follow = judged_follow with_years text r given t is (token.Number v d) same h end;
    }
number_kind text r given t is v d false true same h goes e f =
    (number_fits text r given is v d f, unneeded text r given t is v d same h goes e)
number_kind text r given t is v d false false same h goes e f = (
  λ fits. number_never text r given is v d fits.other fits.alike f fits.p fits.after fits.follow,
  unneeded text r given t is v d same h goes e,
)

-- the slash before a step of weeks that go back
same_slash : (other : TokenKind) → are_alike token.Slash other ≡ true → other ≡ token.Slash
same_slash token.Slash e = refl
same_slash other e = absurd cc

slash_kind : (text : List ℕ) (r : Reading) (given : List Piece) (t : Token) (is : IsTokenReading text r given) (b : Bool)
    → t.kind ≡ token.Slash → IsNext text r.place (Ok (Some t)) → IsMove r.at (Some token.Slash) None
    → is_judged r.at token.Slash by_place ≡ b → IsMisfitKind (kinds is.read.before) token.Slash (range_if b)
slash_kind text r given t is true same h goes e =
    judged_fits text r given t is token.Slash same h refl (slash_ending r.at is.stands e)
slash_kind text r given t is false same h goes e = λ fits.
    judged_never by_place text r given t is token.Slash same h goes e fits.p fits.after
    (subst (λ (k : TokenKind). Follow by_place stage.Front fits.p (kinds is.read.before ++ k ∷ fits.after))
    (same_slash fits.other fits.alike) fits.follow)

-- a last month with a year
same_month : (m : ℕ) (other : TokenKind) → are_alike (token.Month m) other ≡ true → other ≡ token.Month m
same_month m (token.Month l) e = ap (λ (n : ℕ). token.Month n) (sym (eqb-true m l e))
same_month m other e = absurd cc

month_kind : (text : List ℕ) (r : Reading) (given : List Piece) (t : Token) (is : IsTokenReading text r given) (m : ℕ) (b : Bool)
    → t.kind ≡ token.Month m → IsNext text r.place (Ok (Some t)) → IsMove r.at (Some (token.Month m)) None
    → is_judged r.at (token.Month m) by_place ≡ b → IsMisfitKind (kinds is.read.before) (token.Month m) (range_if b)
month_kind text r given t is m true same h goes e =
    judged_fits text r given t is (token.Month m) same h (eq-eqb m m refl) (month_ending r.at m is.stands e)
month_kind text r given t is m false same h goes e = λ fits.
    judged_never by_place text r given t is (token.Month m) same h goes e fits.p fits.after
    (subst (λ (k : TokenKind). Follow by_place stage.Front fits.p (kinds is.read.before ++ k ∷ fits.after))
    (same_month m fits.other fits.alike) fits.follow)

same_signs : (text : List ℕ) (r : Reading) (given : List Piece) (is : IsTokenReading text r given)
    → is_offset r.before_last r.last ≡ is_offset (kind_before (kinds is.read.before)) (last_kind (kinds is.read.before))
same_signs text r given is =
    ap (λ (o : Option TokenKind). is_offset o r.last) (sym is.before_last)
    ∙ ap (is_offset (kind_before (kinds is.read.before))) (sym is.last)

misfit_kind : (text : List ℕ) (r : Reading) (given : List Piece) (t : Token) (is : IsTokenReading text r given) (k : TokenKind)
    → t.kind ≡ k → IsNext text r.place (Ok (Some t)) → IsMove r.at (Some k) None
    → IsMisfitKind (kinds is.read.before) k (misfit_of r.behind r.at r.before_last r.last k)
misfit_kind text r given t is (token.Number v d) same h goes =
    number_kind text r given t is v d (is_judged r.at (token.Number v d) with_years) (takes_number r.behind) same h goes refl refl
misfit_kind text r given t is (token.Time a b) same h goes = time_kind text r given is a b (takes_time r.behind) refl
misfit_kind text r given t is (token.Month m) same h goes =
    month_kind text r given t is m (is_judged r.at (token.Month m) by_place) same h goes refl
misfit_kind text r given t is token.Slash same h goes =
    slash_kind text r given t is (is_judged r.at token.Slash by_place) same h goes refl
misfit_kind text r given t is token.Unsupported same h goes = refl
misfit_kind text r given t is token.Plus same h goes = ap plus_kind (sym is.last)
misfit_kind text r given t is token.Dash same h goes = ap dash_kind (sym is.last)
misfit_kind text r given t is token.Day same h goes =
    ap (λ (o : Option TokenKind). day_kind o r.last) (sym is.before_last)
    ∙ ap (day_kind (kind_before (kinds is.read.before))) (sym is.last)
misfit_kind text r given t is (token.Weekday k) same h goes = ap weekday_kind (same_signs text r given is)
misfit_kind text r given t is k same h goes = λ fits. absurd cc

-- where the fault is told
placed : (before : List Token) (from : ℕ) (offset : Bool) (t : Token) (kind : FaultKind) → last_from before ≡ from
    → offset ≡ is_offset (kind_before (kinds before)) (last_kind (kinds before))
    → place_of kind offset from t ≡ told_at before t kind
placed before from offset t fault.Years e same = sym e
placed before from offset t fault.Range e same =
    ap (λ (n : ℕ). if is_told_before offset t.kind then n else t.from) (sym e)
    ∙ ap (λ (b : Bool). if is_told_before b t.kind then last_from before else t.from) same
placed before from offset t kind e same = refl

pub misfits : (text : List ℕ) (r : Reading) (given : List Piece) (t : Token) → IsTokenReading text r given
    → IsNext text r.place (Ok (Some t)) → IsMove r.at (Some t.kind) None
    → IsFirstFault text (fault_at r t)
misfits text r given t is h goes =
    let split = split_later is.read.later t (same_next text r.place is.read.later (Some t) is.read.reads h) in
    let gives = subst (λ (n : Option TokenKind). GivesTo r.behind r.at n is.two) (known text r given is (Some t) h) is.gives in
    IsFirstFault.misfit (record {
      before = is.read.before;
      here = t;
      after = tails is.read.later;
      are = subst (λ (l : List Token). AreTokens text (is.read.before ++ l)) split is.read.are;
      goes = can_go_on text r given is is.read.stands;
      no_further = λ more.
          let run = follow_runs so_far more.p ((kinds is.read.before ++ t.kind ∷ []) ++ more.after) more.follow in
          let all = subst (λ (l : List TokenKind). Runs so_far places.Front more.p l)
          (first_runs (kinds is.read.before) t.kind more.after) run in
          let behind = is.read.runs so_far more.p (t.kind ∷ more.after) all in
          let at = gives.runs so_far behind.p more.after behind.runs in
          run_refused r.at at.p t.kind more.after goes.fits goes.bit (sym goes.computed) at.runs;
      kind = misfit_kind text r given t is t.kind refl h goes;
      place = placed is.read.before r.from (is_offset r.before_last r.last) t
          (misfit_of r.behind r.at r.before_last r.last t.kind) is.from (same_signs text r given is);
    })

-- ---- both

ended_all : (text : List ℕ) (r : Reading) (given : List Piece) (b : Bool) → is_after r.at ≡ b → IsTokenReading text r given
    → IsNext text r.place (Ok None) → ended text b ≡ Ok None → IsHoursText text given
ended_all text r given true e is h same = all_read text r given is h e
ended_all text r given false e is h same = absurd cc

pub ends_all : (text : List ℕ) (r : Reading) (given : List Piece) (next : Option Token) → IsTokenReading text r given
    → IsNext text r.place (Ok next) → end_or_fault text r next ≡ Ok None → IsHoursText text given
ends_all text r given None is h same = ended_all text r given (is_after r.at) refl is h same
ends_all text r given (Some t) is h same = absurd cc

ended_fault : (text : List ℕ) (r : Reading) (given : List Piece) (b : Bool) → is_after r.at ≡ b → IsTokenReading text r given
    → IsNext text r.place (Ok None) → IsMove r.at None None → IfErr (ended text b) (λ bad. IsFirstFault text bad)
ended_fault text r given true e is h goes = record {}
ended_fault text r given false e is h goes = incomplete text r given is h goes e

pub ends_fault : (text : List ℕ) (r : Reading) (given : List Piece) (next : Option Token) → IsTokenReading text r given
    → IsNext text r.place (Ok next) → IsMove r.at (kind_of next) None
    → IfErr (end_or_fault text r next) (λ bad. IsFirstFault text bad)
ends_fault text r given None is h goes = ended_fault text r given (is_after r.at) refl is h goes
ends_fault text r given (Some t) is h goes = misfits text r given t is h goes
