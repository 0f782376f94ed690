-- How the reading of a text goes on over one piece more: for `read_hours`.
use Rattle.std.proofs.Common.{◌≡◌, refl, ap, ℕ, List}
use Rattle.std.specs.Prelude.{Ok, Err}
use Rattle.gtd_hours_grammar2.specs.Machine.{next}
use Rattle.gtd_hours_grammar2.specs.declared.state.State.{State}
use Rattle.gtd_hours_tokens2.specs.Cursors.{with_piece}
use Rattle.gtd_hours_tokens2.specs.Tokens.{Lexed, with_space, with_token}
use Rattle.gtd_hours_tokens2.specs.declared.token.Piece.{Piece}
use Rattle.gtd_hours_tokens2.specs.declared.token.Piece.TheVariants as piece
use Rattle.gtd_hours_tokens2.specs.declared.token.Token.{Token}
use Rattle.gtd_hours_text2.specs.Parts.{class_of}
use Rattle.gtd_hours_reading2.specs.Reading.{RulesRead, Stepped, completed, read_from, run, then_run, token_step}
use Rattle.gtd_hours_reading2.specs.Seen.{or_tokens}
use Rattle.gtd_hours_reading2.specs.declared.fault.HoursFault.{HoursFault}

pub space_passed : (text : List ℕ) (s : State) (r : RulesRead) (place : ℕ) (later : Lexed)
    → read_from text s r (with_space place later) ≡ read_from text s r later
space_passed text s r place (Ok x) = refl
space_passed text s r place (Err bad) = refl

-- the token leads to a state
pub token_passed : (text : List ℕ) (s to : State) (r u : RulesRead) (t : Token) (later : Lexed)
    → token_step text t (next s (class_of t.kind)) r ≡ Ok (to, u)
    → read_from text s r (with_token t later) ≡ read_from text to u later
token_passed text s to r u t (Ok x) e = ap (λ (z : Stepped). completed (then_run (run text x.tokens) z)) e
token_passed text s to r u t (Err bad) e = refl

-- the token is at fault, unless one of the tokens to come has a fault by itself
pub token_refused : (text : List ℕ) (s : State) (r : RulesRead) (t : Token) (later : Lexed) (why : HoursFault)
    → token_step text t (next s (class_of t.kind)) r ≡ Err why
    → read_from text s r (with_token t later) ≡ Err (or_tokens why later)
token_refused text s r t (Ok x) why e = ap (λ (z : Stepped). completed (then_run (run text x.tokens) z)) e
token_refused text s r t (Err bad) why e = refl

pub fault_passed : (why : HoursFault) (p : Piece) (later : Lexed) → or_tokens why (with_piece p later) ≡ or_tokens why later
fault_passed why (piece.Token t) (Ok x) = refl
fault_passed why (piece.Token t) (Err bad) = refl
fault_passed why (piece.Space place) (Ok x) = refl
fault_passed why (piece.Space place) (Err bad) = refl
