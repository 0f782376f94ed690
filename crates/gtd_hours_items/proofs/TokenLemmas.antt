-- The tokens that have been read so far, and all of a text.
use Rattle.std.proofs.Common.{◌≡◌, ℕ, List, [], ◌∷◌, ◌++◌, Bool, true, false, length, Option, Some, None, Ok, refl, sym, subst}
use Rattle.std.proofs.Common.{arith, inl, inr}
use Rattle.std.specs.Prelude.{◌&&◌}
use Rattle.std.proofs.lemmas.Bool.{false≢true}
use Rattle.std.proofs.lemmas.List.{append-nil}
use Rattle.gtd_scan.specs.facts.OneReading.{HasReadTokens, token_more}
use Rattle.gtd_hours_tokens.specs.declared.token.Token.{Token}
use Rattle.gtd_hours_tokens.specs.Lexing.{AreSpaces, AreTokens, IsNext, IsStop, IsToken, Reads}
use Rattle.gtd_hours_items.specs.Comments.{IsBadPlace, are_whole, is_whole}

-- These tokens were read up to a place.
pub record HasTokens (text : List ℕ) (tokens : List Token) (place : ℕ) : Type 0 where
  pub go_on : HasReadTokens (λ (token : Token). token.from) (λ (token : Token). token.to) (IsToken text) text tokens place

pub at_front : (text : List ℕ) → HasTokens text [] 0
at_front text = record { go_on = λ more to r. r }

pub with_token : (text : List ℕ) (tokens : List Token) (place : ℕ) (token : Token) → HasTokens text tokens place
    → AreSpaces text place token.from → IsToken text token → HasTokens text (tokens ++ token ∷ []) token.to
with_token text tokens place token h spaces is = record {
  go_on = token_more (λ (token : Token). token.from) (λ (token : Token). token.to) (IsToken text) text tokens place token
      h.go_on spaces is;
}

-- where none is next, they are all
pub all_tokens : (text : List ℕ) (tokens : List Token) (place : ℕ) (next : Option Token) → HasTokens text tokens place
    → IsNext text place (Ok next) → ((token : Token) → next ≡ Some token → ⊥) → AreTokens text tokens
all_tokens text tokens place None h is none =
    subst (λ (l : List Token). AreTokens text l) (append-nil tokens) (h.go_on [] (length text) is)
all_tokens text tokens place (Some token) h is none = absurd (none token refl)

-- ---- comments

both_true : (a b : Bool) → a ≡ true → b ≡ true → (a && b) ≡ true
both_true true true e f = refl
both_true true false e f = f
both_true false b e f = absurd (false≢true e)

pub left_true : (a b : Bool) → (a && b) ≡ true → a ≡ true
left_true true b e = refl
left_true false b e = absurd (false≢true e)

pub right_true : (a b : Bool) → (a && b) ≡ true → b ≡ true
right_true true b e = e
right_true false b e = absurd (false≢true e)

-- one whole token more
pub whole_more : (text : List ℕ) (tokens : List Token) (token : Token) → are_whole text tokens ≡ true
    → is_whole text token ≡ true → are_whole text (tokens ++ token ∷ []) ≡ true
whole_more text [] token e w = both_true (is_whole text token) true w refl
whole_more text (t ∷ tokens) token e w =
    both_true (is_whole text t) _ (left_true (is_whole text t) (are_whole text tokens) e)
    (whole_more text tokens token (right_true (is_whole text t) (are_whole text tokens) e) w)

-- a byte with which no token begins, behind whole tokens
pub bad_byte : (text : List ℕ) (tokens : List Token) (from place : ℕ) → HasTokens text tokens from
    → are_whole text tokens ≡ true → IsStop text from place → IsBadPlace text place
bad_byte text tokens from place h whole stop = inl (record {
  fault = record {
    before = tokens ++ [];
    reads = h.go_on [] place stop.spaces;
    inside = stop.inside;
    no_space = stop.no_space;
    no_token = stop.no_token;
  };
  whole = subst (λ (l : List Token). are_whole text l ≡ true) (sym (append-nil tokens)) whole;
})

-- a comment that is not whole, behind whole tokens
pub broken_comment : (text : List ℕ) (tokens : List Token) (place : ℕ) (token : Token) → HasTokens text tokens place
    → are_whole text tokens ≡ true → AreSpaces text place token.from → IsToken text token → is_whole text token ≡ false
    → IsBadPlace text token.from
broken_comment text tokens place token h whole spaces is broken = inr (record {
  before = tokens;
  comment = token;
  reads = subst (λ (l : List Token). Reads text 0 l token.to) (append-nil (tokens ++ token ∷ []))
      ((with_token text tokens place token h spaces is).go_on [] token.to
      (omega arith, λ i le lt. absurd (omega (arith, le, lt))));
  whole = whole;
  broken = broken;
  from = refl;
})
