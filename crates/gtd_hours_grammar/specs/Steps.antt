-- What is known of the reading, from token to token.
use Rattle.std.specs.Prelude.{List, ◌≡◌, ◌↔◌, ℕ, ◌+◌, ◌*◌, ◌-◌, ◌≤◌, Bool, true, false, ◌++◌, length, Option, Some, None, Result}
use Rattle.std.specs.Prelude.{Ok, Err, ◌⊎◌}
use Rattle.gtd_hours_tokens.specs.Lexing.{AreTokens, IsTokenFault, Reads}
use Rattle.gtd_hours_parts.specs.declared.part.Part.{Part}
use Rattle.gtd_hours_moves.specs.Terms.{Token, TokenKind, Piece}
use Rattle.gtd_hours_moves.specs.declared.place.Place.{Place}
use Rattle.gtd_hours_moves.specs.declared.place.Move.{Move}
use Rattle.gtd_hours_moves.specs.declared.place.Place.TheVariants as places
use Rattle.gtd_hours_grammar.specs.declared.reading.Reading.{Reading}
use Rattle.gtd_hours_moves.specs.Grammar.{Demand}
use Rattle.gtd_hours_grammar.specs.Faults.{is_offset, kind_before, kinds, last_from, last_kind}
use Rattle.gtd_hours_moves.specs.Places.{Rest}
use Rattle.gtd_hours_moves.specs.Sound.{Fits, IsPlace}
use Rattle.gtd_hours_moves.specs.Moves.{next_move, rank}
use Rattle.gtd_hours_moves.specs.Runs.{Runs, first, from, is_after}
use Rattle.gtd_hours_grammar.specs.Kinds.{misfit_of, place_of}
use Rattle.gtd_hours_grammar.specs.declared.fault.FaultKind.{FaultKind}
use Rattle.gtd_hours_grammar.specs.declared.fault.FaultKind.TheVariants as fault
use Rattle.gtd_hours_grammar.specs.declared.fault.HoursFault.{HoursFault}

-- the move of the table
pub record IsMove (place : Place) (next : Option TokenKind) (result : Option Move) : Type 0 where
  pub fits : Bool
  pub bit : (fits ≡ true) ↔ Fits place next
  pub computed : result ≡ next_move place next fits

-- a run goes on from here
pub record RunsOn (demand : Demand) (at : Place) (ts : List TokenKind) : Type 0 where
  pub p : List Piece
  pub runs : Runs demand at p ts

-- From one place the reading comes to another with these pieces, and has not used up the next token.
pub record GivesTo (place to : Place) (next : Option TokenKind) (given : List Piece) : Type 0 where
  pub runs : (demand : Demand) → (p : List Piece) → (ts : List TokenKind) → Runs demand place p (from next ts)
      → RunsOn demand to (from next ts)
  pub leads : (demand : Demand) → (p : List Piece) → (ts : List TokenKind) → Rest demand to p (from next ts)
      → Rest demand place (given ++ p) (from next ts)

-- The tokens up to a place of the text have led the reading to a place of the grammar, with these pieces.
pub record HasRead (text : List ℕ) (place : ℕ) (at : Place) (given : List Piece) : Type 0 where
  pub before : List Token
  pub later : List Token
  pub are : AreTokens text (before ++ later)
  pub reads : Reads text place later (length text)
  pub stands : IsPlace at
  pub runs : (demand : Demand) → (p : List Piece) → (ts : List TokenKind) → Runs demand places.Front p (kinds before ++ ts)
      → RunsOn demand at ts
  pub leads : (demand : Demand) → (p : List Piece) → (ts : List TokenKind) → Rest demand at p ts
      → Rest demand places.Front (given ++ p) (kinds before ++ ts)

-- A reading has come this far in a text that is tokens to its end, with these pieces.
pub record IsTokenReading (text : List ℕ) (reading : Reading) (given : List Piece) : Type 0 where
  pub one : List Piece
  pub two : List Piece
  pub whole : given ≡ one ++ two
  pub inside : reading.place ≤ length text
  pub stands : IsPlace reading.at
  pub read : HasRead text reading.place reading.behind one
  pub last : last_kind (kinds read.before) ≡ reading.last
  pub before_last : kind_before (kinds read.before) ≡ reading.before_last
  pub from : last_from read.before ≡ reading.from
  pub gives : GivesTo reading.behind reading.at (first (kinds read.later)) two

-- A reading has come this far in a text, of which only what has been read is known to be tokens, with these pieces.
pub record IsReading (text : List ℕ) (reading : Reading) (given : List Piece) : Type 0 where
  pub before : List Token
  pub go_on : (more : List Token) (to : ℕ) → Reads text reading.place more to → Reads text 0 (before ++ more) to
  pub inside : reading.place ≤ length text
  pub stands : IsPlace reading.at
  pub known : (tokens : List Token) → AreTokens text tokens → IsTokenReading text reading given

-- how many moves can come at most
abbrev pub moves_left : List ℕ → Reading → ℕ
moves_left text reading = 4 * (length text - reading.place) + rank reading.at

abbrev pub kind_of : Option Token → Option TokenKind
kind_of None = None
kind_of (Some t) = Some t.kind

-- the reading behind a move
abbrev pub moved : Bool → Reading → Token → Place → Reading
moved true reading t to =
    record { place = t.to; behind = to; at = to; before_last = reading.last; last = Some t.kind; from = t.from }
moved false reading t to =
    record {
      place = reading.place;
      behind = reading.behind;
      at = to;
      before_last = reading.before_last;
      last = reading.last;
      from = reading.from;
    }

abbrev pub advanced : Reading → Option Token → Move → Reading
advanced reading None move =
    record {
      place = reading.place;
      behind = reading.behind;
      at = move.to;
      before_last = reading.before_last;
      last = reading.last;
      from = reading.from;
    }
advanced reading (Some t) move = moved move.takes reading t move.to

-- the fault at a token that does not go on
abbrev pub fault_of : FaultKind → Bool → ℕ → Token → HoursFault
fault_of kind offset before t = record { kind = kind; place = place_of kind offset before t }

abbrev pub fault_at : Reading → Token → HoursFault
fault_at reading t =
    fault_of (misfit_of reading.behind reading.at reading.before_last reading.last t.kind)
    (is_offset reading.before_last reading.last) reading.from t

-- what a reading comes to where no move can be made
abbrev pub ended : List ℕ → Bool → Result (Option (Part × Reading)) HoursFault
ended text true = Ok None
ended text false = Err (record { kind = fault.Incomplete; place = length text })

abbrev pub end_or_fault : List ℕ → Reading → Option Token → Result (Option (Part × Reading)) HoursFault
end_or_fault text reading None = ended text (is_after reading.at)
end_or_fault text reading (Some t) = Err (fault_at reading t)

-- a byte with which no token begins, as a fault
abbrev pub bad_token : ℕ → HoursFault
bad_token place = record { kind = fault.BadToken; place = place }

-- What is told where a token cannot come next: a byte with which no token begins, wherever there is one, and else that token.
abbrev pub IsToldAt : List ℕ → Reading → Token → HoursFault → Type 0
IsToldAt text reading t bad =
    ((tokens : List Token) × AreTokens text tokens × (bad ≡ fault_at reading t))
    ⊎ ((place : ℕ) × IsTokenFault text place × (bad ≡ bad_token place))

-- what a reading comes to where no move can be made, of whatever bytes are behind it
abbrev pub IsEndOrFault : List ℕ → Reading → Option Token → Result (Option (Part × Reading)) HoursFault → Type 0
IsEndOrFault text reading None result = result ≡ ended text (is_after reading.at)
IsEndOrFault text reading (Some t) (Err bad) = IsToldAt text reading t bad
IsEndOrFault text reading (Some t) (Ok next) = ⊥
