-- Readings of texts of which only what has been read is known to be tokens: a move, and what a reading comes to.
use Rattle.std.proofs.Common.{◌≡◌, ℕ, ◌≤◌, inl, inr, Bool, true, false, List, [], ◌∷◌, ◌++◌, length, Option, Some, None}
use Rattle.std.proofs.Common.{Result, Ok, Err, refl, sym, ap, subst, ◌∙◌, arith}
use Rattle.std.specs.Prelude.{IfErr, IfSome}
use Rattle.std.proofs.lemmas.List.{append-nil}
use Rattle.gtd_hours_tokens.specs.Lexing.{IsNext}
use Rattle.gtd_hours_tokens.specs.facts.WholeText.{HasRead, all_read, with_token}
use Rattle.gtd_hours_parts.specs.declared.part.Part.{Part}
use Rattle.gtd_hours_moves.specs.Terms.{Token, Piece}
use Rattle.gtd_hours_moves.specs.declared.place.Move.{Move}
use Rattle.gtd_hours_moves.specs.declared.place.Place.TheVariants as places
use Rattle.gtd_hours_grammar.specs.declared.fault.HoursFault.{HoursFault}
use Rattle.gtd_hours_grammar.specs.declared.reading.Reading.{Reading}
use Rattle.gtd_hours_grammar.specs.Faults.{IsFirstFault, IsHoursText}
use Rattle.gtd_hours_moves.specs.Runs.{is_after, with_piece}
use Rattle.gtd_hours_grammar.specs.Steps.{IsEndOrFault, IsMove, IsReading, IsToldAt, advanced, ended, kind_of, moved}
use Rattle.gtd_hours_grammar.specs.Steps.{moves_left}
use Rattle.gtd_hours_grammar.proofs.EndLemmas.{ends_all, ends_fault}
use Rattle.gtd_hours_grammar.proofs.ReadLemmas.{Stands, advance, fewer, front_read}

-- ---- the front, and a move

pub at_begin : (text : List ℕ)
    → IsReading text
    (record { place = 0; behind = places.Front; at = places.Front; before_last = None; last = None; from = 0 }) []
at_begin text = record {
  before = [];
  go_on = λ more to read. read;
  inside = omega (arith);
  stands = record {};
  known = λ tokens are. front_read text tokens are;
}

pub has_read : (text : List ℕ) (r : Reading) (given : List Piece) → IsReading text r given → HasRead text r.place
has_read text r given is = record { tokens = is.before; go_on = is.go_on }

-- the bytes that have been read, with a token that comes next
pub read_to : (text : List ℕ) (place : ℕ) (next : Option Token) → HasRead text place → IsNext text place (Ok next)
    → IfSome next (λ (t : Token). HasRead text t.to)
read_to text place None h k = record {}
read_to text place (Some t) h k = with_token text place t h k.0 k.1

read_behind : (text : List ℕ) (r : Reading) (t : Token) (move : Move) (b : Bool) → HasRead text r.place → HasRead text t.to
    → HasRead text (moved b r t move.to).place
read_behind text r t move true h k = k
read_behind text r t move false h k = h

inside_behind : (text : List ℕ) (r : Reading) (t : Token) (move : Move) (b : Bool) → r.place ≤ length text → t.to ≤ length text
    → (moved b r t move.to).place ≤ length text
inside_behind text r t move true h k = k
inside_behind text r t move false h k = h

stands_behind : (r : Reading) (t : Token) (move : Move) (b : Bool) → (moved b r t move.to).at ≡ move.to
stands_behind r t move true = refl
stands_behind r t move false = refl

pub advance_on : (text : List ℕ) (r : Reading) (given : List Piece) (next : Option Token) (move : Move) → IsReading text r given
    → Stands text r next move → IsReading text (advanced r next move) (given ++ with_piece move.piece [])
advance_on text r given None move is s = record {
  before = is.before;
  go_on = is.go_on;
  inside = is.inside;
  stands = s.good.stands;
  known = λ tokens are. advance text r given None move (is.known tokens are) s;
}
advance_on text r given (Some t) move is s =
    let h = has_read text r given is in
    let read = read_behind text r t move move.takes h (read_to text r.place (Some t) h s.token) in
    record {
      before = read.tokens;
      go_on = read.go_on;
      inside = inside_behind text r t move move.takes is.inside s.inside;
      stands = rw (stands_behind r t move move.takes) s.good.stands;
      known = λ tokens are. advance text r given (Some t) move (is.known tokens are) s;
    }

-- ---- one move after another

-- a reading has made moves without a piece
pub record Keeps (text : List ℕ) (start now : Reading) : Type 0 where
  pub some : (given : List Piece) × IsReading text start given
  pub same : (given : List Piece) → IsReading text start given → IsReading text now given
  pub left : moves_left text now ≤ moves_left text start

pub inside : (text : List ℕ) (start now : Reading) → Keeps text start now → now.place ≤ length text
inside text start now k = (k.same k.some.0 k.some.1).inside

pub keeps_more : (text : List ℕ) (start now : Reading) (next : Option Token) (move : Move) → Keeps text start now
    → Stands text now next move → move.piece ≡ None → Keeps text start (advanced now next move)
keeps_more text start now next move k s e = record {
  some = k.some;
  same = λ given is. subst (λ (q : List Piece). IsReading text (advanced now next move) q)
      (ap (λ (x : Option Piece). given ++ with_piece x []) e ∙ append-nil given)
      (advance_on text now given next move (k.same given is) s);
  left = let less = fewer text now next move (inside text start now k) s in omega (arith, less, k.left);
}

pub gives_piece : (text : List ℕ) (start now : Reading) (next : Option Token) (move : Move) (x : Piece) → Keeps text start now
    → Stands text now next move → move.piece ≡ Some x → (given : List Piece) → IsReading text start given
    → IsReading text (advanced now next move) (given ++ x ∷ [])
gives_piece text start now next move x k s e given is =
    subst (λ (y : Option Piece). IsReading text (advanced now next move) (given ++ with_piece y [])) e
    (advance_on text now given next move (k.same given is) s)

-- ---- where no move can be made

all_known : (text : List ℕ) (r : Reading) (given : List Piece) → IsReading text r given → IsNext text r.place (Ok None)
    → ended text (is_after r.at) ≡ Ok None → IsHoursText text given
all_known text r given is h same =
    let all = all_read text r.place (has_read text r given is) h in ends_all text r given None (is.known all.0 all.1) h same

pub hours_read : (text : List ℕ) (r : Reading) (given : List Piece) (next : Option Token)
    (result : Result (Option (Part × Reading)) HoursFault) → IsReading text r given → IsNext text r.place (Ok next)
    → IsEndOrFault text r next result → result ≡ Ok None → IsHoursText text given
hours_read text r given None result is h same none = all_known text r given is h (sym same ∙ none)
hours_read text r given (Some t) (Ok next) is h same none = absurd same
hours_read text r given (Some t) (Err bad) is h same none = absurd cc

told_first : (text : List ℕ) (r : Reading) (given : List Piece) (t : Token) (bad : HoursFault) → IsReading text r given
    → IsNext text r.place (Ok (Some t)) → IsMove r.at (Some t.kind) None → IsToldAt text r t bad → IsFirstFault text bad
told_first text r given t bad is h goes told = elim told [
  | inl x ↦ rw (x.2) (ends_fault text r given (Some t) (is.known x.0 x.1) h goes)
  | inr x ↦ rw (x.2) (IsFirstFault.bad_token refl x.1)
]

pub fault_read : (text : List ℕ) (r : Reading) (given : List Piece) (next : Option Token)
    (result : Result (Option (Part × Reading)) HoursFault) → IsReading text r given → IsNext text r.place (Ok next)
    → IsMove r.at (kind_of next) None → IsEndOrFault text r next result → IfErr result (λ bad. IsFirstFault text bad)
fault_read text r given None result is h goes same =
    let all = all_read text r.place (has_read text r given is) h in
    rw (same) (ends_fault text r given None (is.known all.0 all.1) h goes)
fault_read text r given (Some t) (Ok next) is h goes same = absurd same
fault_read text r given (Some t) (Err bad) is h goes told = told_first text r given t bad is h goes told
