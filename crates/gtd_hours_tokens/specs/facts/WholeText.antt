-- A text is one list of tokens, or has one first fault.
use Rattle.std.proofs.Common.{◌≡◌, ℕ, List, [], ◌∷◌, ◌++◌, length, refl}
use Rattle.std.proofs.Common.{Option, Some, None, Ok}
use Rattle.gtd_scan.specs.facts.OneReading.{HasReadTokens, one_list as one_list_of, one_stop, stuck, token_more}
use Rattle.gtd_hours_tokens.specs.declared.token.Token.{Token}
use Rattle.gtd_hours_tokens.specs.Lexing.{IsToken, AreSpaces, IsStop, IsNext, Reads, AreTokens, IsTokenFault}
use Rattle.gtd_hours_tokens.specs.facts.TokenForms.{is_language}

pub one_list : (text : List ℕ) (from : ℕ) (tokens others : List Token) (to : ℕ) → Reads text from tokens to
    → Reads text from others to → tokens ≡ others
one_list text = one_list_of (is_language text)

pub one_fault : (text : List ℕ) (one other : ℕ) → IsTokenFault text one → IsTokenFault text other → one ≡ other
one_fault text one other h k = one_stop (is_language text) 0 h.before k.before one other h.reads k.reads h.no_space k.no_space
    h.no_token k.no_token

pub apart : (text : List ℕ) (tokens : List Token) (place : ℕ) → AreTokens text tokens → IsTokenFault text place → ⊥
apart text tokens place are h = stuck (is_language text) 0 h.before place tokens h.reads h.inside h.no_space h.no_token are

-- ---- what was read so far

-- tokens were read up to this place: whatever more is read from here comes after them
pub record HasRead (text : List ℕ) (place : ℕ) : Type 0 where
  pub tokens : List Token
  pub go_on : HasReadTokens (λ (token : Token). token.from) (λ (token : Token). token.to) (IsToken text) text tokens place

pub at_front : (text : List ℕ) → HasRead text 0
at_front text = record { tokens = []; go_on = λ more to r. r }

pub with_token : (text : List ℕ) (place : ℕ) (token : Token) → HasRead text place → AreSpaces text place token.from
    → IsToken text token → HasRead text token.to
with_token text place token h spaces is = record {
  tokens = h.tokens ++ token ∷ [];
  go_on = token_more (λ (token : Token). token.from) (λ (token : Token). token.to) (IsToken text) text h.tokens place token
      h.go_on spaces is;
}

pub all_read : (text : List ℕ) (place : ℕ) → HasRead text place → AreSpaces text place (length text)
    → (tokens : List Token) × AreTokens text tokens
all_read text place h spaces = (h.tokens ++ [], h.go_on [] (length text) spaces)

pub fault_read : (text : List ℕ) (from place : ℕ) → HasRead text from → IsStop text from place → IsTokenFault text place
fault_read text from place h stop = record {
  before = h.tokens ++ [];
  reads = h.go_on [] place stop.spaces;
  inside = stop.inside;
  no_space = stop.no_space;
  no_token = stop.no_token;
}

-- where none is next, all was read
pub all_read_none : (text : List ℕ) (place : ℕ) (next : Option Token) → HasRead text place → IsNext text place (Ok next)
    → ((token : Token) → next ≡ Some token → ⊥) → (tokens : List Token) × AreTokens text tokens
all_read_none text place None h is none = all_read text place h is
all_read_none text place (Some token) h is none = absurd (none token refl)
