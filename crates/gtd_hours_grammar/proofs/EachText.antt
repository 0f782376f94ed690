-- Each text is opening hours, or has a first fault.
use Rattle.std.proofs.Common.{◌≡◌, ℕ, zero, suc, ◌+◌, ◌*◌, ◌<◌, ◌≤◌, ◌⊎◌, inl, inr, Bool, true, false, List, [], ◌∷◌, ◌++◌}
use Rattle.std.proofs.Common.{length, Option, Some, None, Ok, refl, sym, subst, arith, length-append}
use Rattle.std.specs.Prelude.{◌↔◌, IfSome}
use Rattle.gtd_core.specs.facts.Deciding.{Decided}
use Rattle.gtd_hours_tokens.specs.Lexing.{AreTokens, IsNext, IsTokenFault, Reads}
use Rattle.gtd_hours_tokens.specs.facts.TokenForms.{ends_inside, goes_on}
use Rattle.gtd_hours_grammar.specs.declared.fault.FaultKind.TheVariants as fault
use Rattle.gtd_hours_grammar.specs.declared.fault.HoursFault.{HoursFault}
use Rattle.gtd_hours_moves.specs.Terms.{Token, Piece}
use Rattle.gtd_hours_moves.specs.declared.place.Move.{Move}
use Rattle.gtd_hours_moves.specs.declared.place.Place.TheVariants as places
use Rattle.gtd_hours_grammar.specs.declared.reading.Reading.{Reading}
use Rattle.gtd_hours_grammar.specs.Faults.{IsFirstFault, IsHoursText}
use Rattle.gtd_hours_moves.specs.Moves.{next_move}
use Rattle.gtd_hours_moves.specs.Runs.{is_after, with_piece}
use Rattle.gtd_hours_moves.specs.Sound.{Fits}
use Rattle.gtd_hours_parts.specs.SoundPieces.{ArePieces, IsPiece}
use Rattle.gtd_hours_grammar.specs.Steps.{IsMove, IsTokenReading, advanced, fault_at, kind_of, moves_left}
use Rattle.gtd_hours_grammar.specs.facts.FirstFault.{hours_or_fault}
use Rattle.gtd_hours_grammar.specs.facts.OneReading.{one_reading}
use Rattle.gtd_hours_grammar.proofs.EndLemmas.{all_read, incomplete, misfits}
use Rattle.gtd_hours_grammar.proofs.FitsDecided.{fits_decided}
use Rattle.gtd_hours_moves.proofs.GoodMoves.{IsRight, move_right}
use Rattle.gtd_hours_grammar.proofs.ReadLemmas.{Stands, advance, fewer, front_read}
use Rattle.gtd_hours_grammar.proofs.SoundLemmas.{sound_piece}

-- the pieces of a text, which are few and in range; or its first fault
record Given (text : List ℕ) : Type 0 where
  p : List Piece
  is : IsHoursText text p
  are : ArePieces p
  few : length p ≤ 4 * length text

abbrev Read : List ℕ → Type 0
Read text = Given text ⊎ ((bad : HoursFault) × IsFirstFault text bad)

-- a reading that has come this far, with pieces in range
record So (text : List ℕ) (r : Reading) : Type 0 where
  given : List Piece
  is : IsTokenReading text r given
  are : ArePieces given
  few : length given + moves_left text r ≤ 4 * length text

-- ---- what comes next

-- the next token, and where it ends
record Next (text : List ℕ) (place : ℕ) : Type 0 where
  token : Option Token
  is : IsNext text place (Ok token)
  past : IfSome token (λ t. place < t.to)
  inside : IfSome token (λ t. t.to ≤ length text)

next_token : (text : List ℕ) (place : ℕ) (later : List Token) → Reads text place later (length text) → Next text place
next_token text place [] reads = record { token = None; is = reads; past = record {}; inside = record {} }
next_token text place (t ∷ ts) reads = record {
  token = Some t;
  is = (reads.0, reads.1);
  past = omega (arith, reads.0.0, goes_on text t reads.1);
  inside = ends_inside text t reads.1;
}

-- whether it fits, as the table asks
record Bit (P : Type 0) : Type 0 where
  fits : Bool
  bit : (fits ≡ true) ↔ P

bit_of : (P : Type 0) → Decided P → Bit P
bit_of P (inl h) = record { fits = true; bit = ((λ e. h), (λ k. refl)) }
bit_of P (inr never) = record { fits = false; bit = ((λ e. absurd cc), (λ k. absurd (never k))) }

-- ---- where no move can be made

ended : (text : List ℕ) (r : Reading) (so : So text r) (b : Bool) → is_after r.at ≡ b → IsNext text r.place (Ok None)
    → IsMove r.at None None → Read text
ended text r so true e h goes = inl (record {
  p = so.given;
  is = all_read text r so.given so.is h e;
  are = so.are;
  few = (let few = so.few in omega (arith, few));
})
ended text r so false e h goes =
    inr (record { kind = fault.Incomplete; place = length text }, incomplete text r so.given so.is h goes e)

stopped : (text : List ℕ) (r : Reading) (so : So text r) (next : Option Token) → IsNext text r.place (Ok next)
    → IsMove r.at (kind_of next) None → Read text
stopped text r so None h goes = ended text r so (is_after r.at) refl h goes
stopped text r so (Some t) h goes =
    inr (fault_at r t, misfits text r so.given t so.is h goes)

-- ---- a move

more_pieces : (p : List Piece) (x : Option Piece) → ArePieces p → IfSome x (λ y. IsPiece y) → ArePieces (p ++ with_piece x [])
more_pieces [] None are one = are
more_pieces [] (Some x) are one = (one, are)
more_pieces (y ∷ p) x are one = (are.0, more_pieces p x are.1 one)

one_piece : (x : Option Piece) → length (with_piece x []) ≤ 1
one_piece None = omega arith
one_piece (Some x) = omega arith

sound : (text : List ℕ) (r : Reading) (given : List Piece) (next : Option Token) (move : Move) (x : Option Piece)
    → move.piece ≡ x → IsTokenReading text r given → IsMove r.at (kind_of next) (Some move) → IfSome x (λ y. IsPiece y)
sound text r given next move None e is goes = record {}
sound text r given next move (Some y) e is goes = sound_piece r.at (kind_of next) move y is.stands goes e

moved : (text : List ℕ) (r : Reading) (so : So text r) (next : Option Token) (move : Move) → Stands text r next move
    → So text (advanced r next move)
moved text r so next move stands = record {
  given = so.given ++ with_piece move.piece [];
  is = advance text r so.given next move so.is stands;
  are = more_pieces so.given move.piece so.are (sound text r so.given next move move.piece refl so.is stands.goes);
  few = (
      let few = so.few in
      let less = fewer text r next move so.is.inside stands in
      omega (arith, few, less, length-append so.given (with_piece move.piece []), one_piece move.piece)
      );
}

-- ---- one move after another

-- a move, or none
step : (text : List ℕ) (r : Reading) (so : So text r) (next : Next text r.place) (b : Bit (Fits r.at (kind_of next.token)))
    (m : Option Move) → next_move r.at (kind_of next.token) b.fits ≡ m
    → ((move : Move) → Stands text r next.token move → Read text) → Read text
step text r so next b None e on =
    stopped text r so next.token next.is (record { fits = b.fits; bit = b.bit; computed = sym e })
step text r so next b (Some move) e on =
    let right = move_right r.at (kind_of next.token) b.fits so.is.stands b.bit.0 in
    on move (record {
      token = next.is;
      past = next.past;
      inside = next.inside;
      goes = record { fits = b.fits; bit = b.bit; computed = sym e };
      good = subst (λ (m : Option Move). IsRight r.at (kind_of next.token) m) e right;
    })

read_on : (fuel : ℕ) (text : List ℕ) (r : Reading) → So text r → moves_left text r ≤ fuel → Read text
read_on zero text r so enough =
    let next = next_token text r.place so.is.read.later so.is.read.reads in
    let b = bit_of (Fits r.at (kind_of next.token)) (fits_decided r.at (kind_of next.token)) in
    step text r so next b (next_move r.at (kind_of next.token) b.fits) refl
    (λ move stands. absurd (let less = fewer text r next.token move so.is.inside stands in omega (arith, less, enough)))
read_on (suc fuel) text r so enough =
    let next = next_token text r.place so.is.read.later so.is.read.reads in
    let b = bit_of (Fits r.at (kind_of next.token)) (fits_decided r.at (kind_of next.token)) in
    step text r so next b (next_move r.at (kind_of next.token) b.fits) refl
    (λ move stands. read_on fuel text (advanced r next.token move) (moved text r so next.token move stands)
    (let less = fewer text r next.token move so.is.inside stands in omega (arith, less, enough)))

-- ---- the whole text

abbrev start : Reading
start = record { place = 0; behind = places.Front; at = places.Front; before_last = None; last = None; from = 0 }

read_tokens : (text : List ℕ) (tokens : List Token) → AreTokens text tokens → Read text
read_tokens text tokens are =
    read_on (4 * length text) text start
    (record { given = []; is = front_read text tokens are; are = record {}; few = omega arith }) (omega arith)

module _ (each_tokens : (text : List ℕ)
    → ((tokens : List Token) × AreTokens text tokens) ⊎ ((place : ℕ) × IsTokenFault text place)) where
  read : (text : List ℕ) → Read text
  read text = elim (each_tokens text) [
    | inl tokens ↦ read_tokens text tokens.0 tokens.1
    | inr bad ↦ inr (record { kind = fault.BadToken; place = bad.0 }, IsFirstFault.bad_token refl bad.1)
  ]

  pub each_text : (text : List ℕ) → ((p : List Piece) × IsHoursText text p) ⊎ ((bad : HoursFault) × IsFirstFault text bad)
  each_text text = elim (read text) [ inl given ↦ inl (given.p, given.is) | inr bad ↦ inr bad ]

  pub in_range : (text : List ℕ) (p : List Piece) → IsHoursText text p → ArePieces p
  in_range text p is = elim (read text) [
    | inl given ↦ subst (λ (q : List Piece). ArePieces q) (one_reading text given.p p given.is is) given.are
    | inr bad ↦ absurd (hours_or_fault text p bad.0 is bad.1)
  ]

  pub few_pieces : (text : List ℕ) (p : List Piece) → IsHoursText text p → length p ≤ 4 * length text
  few_pieces text p is = elim (read text) [
    | inl given ↦ subst (λ (q : List Piece). length q ≤ 4 * length text) (one_reading text given.p p given.is is) given.few
    | inr bad ↦ absurd (hours_or_fault text p bad.0 is bad.1)
  ]
