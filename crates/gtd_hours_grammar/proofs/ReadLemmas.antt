-- A reading from token to token, and what it comes to.
use Rattle.std.proofs.Common.{◌≡◌, ℕ, ◌≤◌, ◌<◌, Bool, true, false, List, [], ◌∷◌, ◌++◌, length, Option, Some, None, Result, Ok}
use Rattle.std.proofs.Common.{refl, sym, ap, subst, ◌∙◌, arith, append_assoc}
use Rattle.std.specs.Prelude.{◌↔◌, IfSome}
use Rattle.std.proofs.lemmas.List.{append-nil}
use Rattle.gtd_hours_tokens.specs.Lexing.{AreTokens, IsNext, Reads}
use Rattle.gtd_hours_tokens.specs.facts.NextToken.{one_next}
use Rattle.gtd_hours_tokens.specs.declared.token.BadToken.{BadToken}
use Rattle.gtd_hours_moves.specs.Terms.{Token, TokenKind, Piece}
use Rattle.gtd_hours_moves.specs.declared.place.Place.{Place}
use Rattle.gtd_hours_moves.specs.declared.place.Move.{Move}
use Rattle.gtd_hours_moves.specs.declared.place.Place.TheVariants as places
use Rattle.gtd_hours_grammar.specs.declared.reading.Reading.{Reading}
use Rattle.gtd_hours_moves.specs.Grammar.{Demand}
use Rattle.gtd_hours_grammar.specs.Faults.{kind_before, kinds, last_from, last_kind}
use Rattle.gtd_hours_moves.specs.Places.{Rest}
use Rattle.gtd_hours_moves.specs.Sound.{Fits}
use Rattle.gtd_hours_moves.specs.Moves.{next_move, rank}
use Rattle.gtd_hours_moves.specs.Runs.{IsGood, Runs, first, from, left, with_piece}
use Rattle.gtd_hours_grammar.specs.Steps.{GivesTo, HasRead, IsMove, IsTokenReading, RunsOn, advanced, kind_of, moved, moves_left}
use Rattle.gtd_hours_moves.specs.facts.RunSteps.{run_step}

-- ---- moves that use up no token

pub at_once : (at : Place) (next : Option TokenKind) → GivesTo at at next []
at_once at next = record { runs = λ d p ts r. record { p = p; runs = r }; leads = λ d p ts r. r }

first_from : (next : Option TokenKind) (ts : List TokenKind) → first (from next ts) ≡ next
first_from None ts = refl
first_from (Some t) ts = refl

left_all : (b : Bool) (ts : List TokenKind) → b ≡ false → left b ts ≡ ts
left_all false ts e = refl
left_all true ts e = absurd cc

with_one : (x : Option Piece) (p : List Piece) → with_piece x [] ++ p ≡ with_piece x p
with_one None p = refl
with_one (Some x) p = refl

pub pieces_after : (given : List Piece) (x : Option Piece) (p : List Piece)
    → given ++ with_piece x p ≡ given ++ with_piece x [] ++ p
pieces_after given x p =
    ap (λ (q : List Piece). given ++ q) (sym (with_one x p)) ∙ sym (append_assoc given (with_piece x []) p)

-- the run goes on by the move of the table
move_runs : (d : Demand) (at : Place) (next : Option TokenKind) (move : Move) (p : List Piece) (ts : List TokenKind)
    → IsMove at next (Some move) → Runs d at p (from next ts) → RunsOn d move.to (left move.takes (from next ts))
move_runs d at next move p ts is run =
    let same = first_from next ts in
    let bit = subst (λ (n : Option TokenKind). (is.fits ≡ true) ↔ Fits at n) (sym same) is.bit in
    let goes = ap (λ (n : Option TokenKind). next_move at n is.fits) same ∙ sym is.computed in
    let on = run_step d at p (from next ts) is.fits move bit goes run in record { p = on.q; runs = on.runs }

pub gives_more : (place at : Place) (next : Option TokenKind) (given : List Piece) (move : Move) → GivesTo place at next given
    → IsMove at next (Some move) → IsGood at next move → move.takes ≡ false
    → GivesTo place move.to next (given ++ with_piece move.piece [])
gives_more place at next given move gives is good keeps = record {
  runs = λ d p ts run.
      let on = gives.runs d p ts run in
      subst (λ (us : List TokenKind). RunsOn d move.to us) (left_all move.takes (from next ts) keeps)
      (move_runs d at next move on.p ts is on.runs);
  leads = λ d p ts rest.
      let all = sym (left_all move.takes (from next ts) keeps) in
      let before = good.leads d p ts (subst (λ (us : List TokenKind). Rest d move.to p us) all rest) in
      subst (λ (q : List Piece). Rest d place q (from next ts)) (pieces_after given move.piece p)
      (gives.leads d (with_piece move.piece p) ts before);
}

-- ---- the next token

abbrev given_by : Option Token → Result (Option Token) BadToken
given_by a = Ok a

ok_same : (a b : Option Token) → given_by a ≡ given_by b → a ≡ b
ok_same a b e = cc

abbrev head : List Token → Option Token
head [] = None
head (t ∷ ts) = Some t

abbrev pub tails : List Token → List Token
tails [] = []
tails (t ∷ ts) = ts

pub same_next : (text : List ℕ) (place : ℕ) (later : List Token) (next : Option Token) → Reads text place later (length text)
    → IsNext text place (Ok next) → head later ≡ next
same_next text place [] next h k = ok_same None next (one_next text place (Ok None) (Ok next) h k)
same_next text place (t ∷ ts) next h k = ok_same (Some t) next (one_next text place (Ok (Some t)) (Ok next) (h.0, h.1) k)

next_kind : (later : List Token) (next : Option Token) → head later ≡ next → first (kinds later) ≡ kind_of next
next_kind [] None e = refl
next_kind [] (Some t) e = absurd cc
next_kind (u ∷ us) None e = absurd cc
next_kind (u ∷ us) (Some t) e = cc

pub split_later : (later : List Token) (t : Token) → head later ≡ Some t → later ≡ t ∷ tails later
split_later [] t e = absurd cc
split_later (u ∷ us) t e = cc

pub none_later : (later : List Token) → head later ≡ None → later ≡ []
none_later [] e = refl
none_later (u ∷ us) e = absurd cc

kinds_one : (before : List Token) (t : Token) (ts : List TokenKind)
    → kinds (before ++ t ∷ []) ++ ts ≡ kinds before ++ t.kind ∷ ts
kinds_one [] t ts = refl
kinds_one (u ∷ us) t ts = ap (λ (l : List TokenKind). u.kind ∷ l) (kinds_one us t ts)

pub front_read : (text : List ℕ) (tokens : List Token) → AreTokens text tokens
    → IsTokenReading text
    (record { place = 0; behind = places.Front; at = places.Front; before_last = None; last = None; from = 0 }) []
front_read text tokens are = record {
  one = [];
  two = [];
  whole = refl;
  inside = omega (arith);
  stands = record {};
  read = record {
    before = [];
    later = tokens;
    are = are;
    reads = are;
    stands = record {};
    runs = λ d p ts r. record { p = p; runs = r };
    leads = λ d p ts r. r;
  };
  last = refl;
  before_last = refl;
  from = refl;
  gives = at_once places.Front (first (kinds tokens));
}

-- ---- moves of a reading

pub known : (text : List ℕ) (r : Reading) (given : List Piece) (is : IsTokenReading text r given) (next : Option Token)
    → IsNext text r.place (Ok next) → first (kinds is.read.later) ≡ kind_of next
known text r given is next h = next_kind is.read.later next (same_next text r.place is.read.later next is.read.reads h)

pub shifts : (text : List ℕ) (r : Reading) (given : List Piece) (next : Option Token) (move : Move) → IsTokenReading text r given
    → IsNext text r.place (Ok next) → IsMove r.at (kind_of next) (Some move) → IsGood r.at (kind_of next) move
    → move.takes ≡ false
    → IsTokenReading text (record {
      place = r.place;
      behind = r.behind;
      at = move.to;
      before_last = r.before_last;
      last = r.last;
      from = r.from;
    })
    (given ++ with_piece move.piece [])
shifts text r given next move is h goes good keeps =
    let same = known text r given is next h in
    let gives = subst (λ (n : Option TokenKind). GivesTo r.behind r.at n is.two) same is.gives in
    let more = gives_more r.behind r.at (kind_of next) is.two move gives goes good keeps in
    record {
      one = is.one;
      two = is.two ++ with_piece move.piece [];
      whole = ap (λ (q : List Piece). q ++ with_piece move.piece []) is.whole
          ∙ append_assoc is.one is.two (with_piece move.piece []);
      inside = is.inside;
      stands = good.stands;
      read = is.read;
      last = is.last;
      before_last = is.before_last;
      from = is.from;
      gives = subst (λ (n : Option TokenKind). GivesTo r.behind move.to n (is.two ++ with_piece move.piece [])) (sym same) more;
    }

left_none : (b : Bool) (t : TokenKind) (ts : List TokenKind) → b ≡ true → left b (t ∷ ts) ≡ ts
left_none true t ts e = refl
left_none false t ts e = absurd cc

all_given : (given one two : List Piece) (x : Option Piece) (p : List Piece) → given ≡ one ++ two
    → given ++ with_piece x [] ++ p ≡ one ++ (two ++ with_piece x p)
all_given given one two x p e =
    sym (pieces_after given x p) ∙ ap (λ (q : List Piece). q ++ with_piece x p) e ∙ append_assoc one two (with_piece x p)

last_more : (before : List Token) (t : Token) → last_kind (kinds (before ++ t ∷ [])) ≡ Some t.kind
last_more [] t = refl
last_more (u ∷ []) t = refl
last_more (u ∷ w ∷ us) t = last_more (w ∷ us) t

before_more : (before : List Token) (t : Token) → kind_before (kinds (before ++ t ∷ [])) ≡ last_kind (kinds before)
before_more [] t = refl
before_more (u ∷ []) t = refl
before_more (u ∷ w ∷ []) t = refl
before_more (u ∷ w ∷ x ∷ us) t = before_more (w ∷ x ∷ us) t

from_more : (before : List Token) (t : Token) → last_from (before ++ t ∷ []) ≡ t.from
from_more [] t = refl
from_more (u ∷ []) t = refl
from_more (u ∷ w ∷ us) t = from_more (w ∷ us) t

-- the tokens up to the one that is used up
abbrev read_more : (text : List ℕ) (r : Reading) (given : List Piece) (t : Token) (move : Move) → IsTokenReading text r given
    → IsNext text r.place (Ok (Some t)) → IsMove r.at (Some t.kind) (Some move) → IsGood r.at (Some t.kind) move
    → move.takes ≡ true → HasRead text t.to move.to (given ++ with_piece move.piece [])
read_more text r given t move is h goes good takes =
    let next = same_next text r.place is.read.later (Some t) is.read.reads h in
    let same = next_kind is.read.later (Some t) next in
    let split = split_later is.read.later t next in
    let gives = subst (λ (n : Option TokenKind). GivesTo r.behind r.at n is.two) same is.gives in
    record {
      before = is.read.before ++ t ∷ [];
      later = tails is.read.later;
      are = subst (λ (l : List Token). AreTokens text l)
          (ap (λ (l : List Token). is.read.before ++ l) split
          ∙ sym (append_assoc is.read.before (t ∷ []) (tails is.read.later))) is.read.are;
      reads = (subst (λ (l : List Token). Reads text r.place l (length text)) split is.read.reads).2;
      stands = good.stands;
      runs = λ d p ts run.
          let on = is.read.runs d p (t.kind ∷ ts)
          (subst (λ (l : List TokenKind). Runs d places.Front p l) (kinds_one is.read.before t ts) run) in
          let at = gives.runs d on.p ts on.runs in
          subst (λ (l : List TokenKind). RunsOn d move.to l) (left_none move.takes t.kind ts takes)
          (move_runs d r.at (Some t.kind) move at.p ts goes at.runs);
      leads = λ d p ts rest.
          let at = good.leads d p ts
          (subst (λ (l : List TokenKind). Rest d move.to p l) (sym (left_none move.takes t.kind ts takes)) rest) in
          let behind = gives.leads d (with_piece move.piece p) ts at in
          let front = is.read.leads d (is.two ++ with_piece move.piece p) (t.kind ∷ ts) behind in
          subst (λ (l : List TokenKind). Rest d places.Front (given ++ with_piece move.piece [] ++ p) l)
          (sym (kinds_one is.read.before t ts))
          (subst (λ (q : List Piece). Rest d places.Front q (kinds is.read.before ++ t.kind ∷ ts))
          (sym (all_given given is.one is.two move.piece p is.whole)) front);
    }

pub takes_token : (text : List ℕ) (r : Reading) (given : List Piece) (t : Token) (move : Move) → IsTokenReading text r given
    → IsNext text r.place (Ok (Some t)) → t.to ≤ length text → IsMove r.at (Some t.kind) (Some move)
    → IsGood r.at (Some t.kind) move → move.takes ≡ true
    → IsTokenReading text (record {
      place = t.to;
      behind = move.to;
      at = move.to;
      before_last = r.last;
      last = Some t.kind;
      from = t.from;
    })
    (given ++ with_piece move.piece [])
takes_token text r given t move is h inside goes good takes =
    let read = read_more text r given t move is h goes good takes in
    record {
      one = given ++ with_piece move.piece [];
      two = [];
      whole = sym (append-nil (given ++ with_piece move.piece []));
      inside = inside;
      stands = good.stands;
      read = read;
      last = last_more is.read.before t;
      before_last = before_more is.read.before t ∙ is.last;
      from = from_more is.read.before t;
      gives = at_once move.to (first (kinds read.later));
    }

-- the end of the text is never used up
never_takes : (at : Place) (fits : Bool) (move : Move) → Some move ≡ next_move at None fits → move.takes ≡ false
never_takes (places.Year n) fits move e = cc
never_takes (places.YearMonth n m) fits move e = cc
never_takes (places.MonthAfterYear m) fits move e = cc
never_takes (places.ListedYear n) fits move e = cc
never_takes (places.YearRange a b) fits move e = cc
never_takes (places.Month m) fits move e = cc
never_takes (places.Date x) fits move e = cc
never_takes (places.ListedDay x) fits move e = cc
never_takes (places.CommaDate y m) fits move e = cc
never_takes (places.Week n) fits move e = cc
never_takes (places.WeekRange a b) fits move e = cc
never_takes (places.WeekBack a b) fits move e = cc
never_takes (places.WeekAgain a b) fits move e = cc
never_takes (places.Weekday k) fits move e = cc
never_takes (places.Nth k n r) fits move e = cc
never_takes (places.PlacesEnd r) fits move e = cc
never_takes (places.Comma s) fits move e = cc
never_takes at fits move e = absurd cc

rank_small : (at : Place) → rank at ≤ 3
rank_small (places.YearMonth n m) = omega (arith)
rank_small (places.MonthAfterYear m) = omega (arith)
rank_small (places.YearMonthDash n m) = omega (arith)
rank_small (places.MonthDashAfterYear m) = omega (arith)
rank_small at = omega (arith)

-- ---- one move after another

pub record Stands (text : List ℕ) (r : Reading) (next : Option Token) (move : Move) : Type 0 where
  pub token : IsNext text r.place (Ok next)
  pub past : IfSome next (λ (t : Token). r.place < t.to)
  pub inside : IfSome next (λ (t : Token). t.to ≤ length text)
  pub goes : IsMove r.at (kind_of next) (Some move)
  pub good : IsGood r.at (kind_of next) move

advanced_by : (text : List ℕ) (r : Reading) (given : List Piece) (t : Token) (move : Move) (b : Bool) → move.takes ≡ b
    → IsTokenReading text r given → Stands text r (Some t) move
    → IsTokenReading text (moved b r t move.to) (given ++ with_piece move.piece [])
advanced_by text r given t move true e is s = takes_token text r given t move is s.token s.inside s.goes s.good e
advanced_by text r given t move false e is s = shifts text r given (Some t) move is s.token s.goes s.good e

pub advance : (text : List ℕ) (r : Reading) (given : List Piece) (next : Option Token) (move : Move) → IsTokenReading text r given
    → Stands text r next move → IsTokenReading text (advanced r next move) (given ++ with_piece move.piece [])
advance text r given None move is s =
    shifts text r given None move is s.token s.goes s.good (never_takes r.at s.goes.fits move s.goes.computed)
advance text r given (Some t) move is s = advanced_by text r given t move move.takes refl is s

fewer_by : (text : List ℕ) (r : Reading) (t : Token) (move : Move) (b : Bool) → move.takes ≡ b → r.place ≤ length text
    → Stands text r (Some t) move → moves_left text (moved b r t move.to) < moves_left text r
fewer_by text r t move true e le s = omega (arith, le, s.past, s.inside, rank_small move.to)
fewer_by text r t move false e le s = omega (arith, s.good.nearer e)

pub fewer : (text : List ℕ) (r : Reading) (next : Option Token) (move : Move) → r.place ≤ length text → Stands text r next move
    → moves_left text (advanced r next move) < moves_left text r
fewer text r None move le s = omega (arith, s.good.nearer (never_takes r.at s.goes.fits move s.goes.computed))
fewer text r (Some t) move le s = fewer_by text r t move move.takes refl le s

pub stands_by : (text : List ℕ) (r : Reading) (next : Option Token) (kind : Option TokenKind) (move : Move)
    → kind ≡ kind_of next → IsNext text r.place (Ok next) → IfSome next (λ (t : Token). r.place < t.to)
    → IfSome next (λ (t : Token). t.to ≤ length text) → IsMove r.at kind (Some move) → IsGood r.at kind move
    → Stands text r next move
stands_by text r next kind move same token past inside goes good = record {
  token = token;
  past = past;
  inside = inside;
  goes = subst (λ (n : Option TokenKind). IsMove r.at n (Some move)) same goes;
  good = subst (λ (n : Option TokenKind). IsGood r.at n move) same good;
}
