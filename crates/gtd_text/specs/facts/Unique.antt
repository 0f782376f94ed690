-- A text is one list of tokens, since its tokens are a language.
use Rattle.std.proofs.Common.{◌≡◌, ℕ, ◌+◌, ◌<◌, List, ◌∷◌, length, drop, Some, None, ap, ◌∙◌}
use Rattle.std.proofs.Common.{inl, inr, add-one, drop-cons}
use Rattle.std.specs.Prelude.{slice_index}
use Rattle.std.proofs.lemmas.List.{drop_all}
use Rattle.std.proofs.lemmas.Bool.{cases_lt}
use Rattle.gtd_scan.specs.Tokens.{IsLanguage}
use Rattle.gtd_scan.specs.facts.Computed.{one_token}
use Rattle.gtd_scan.specs.facts.OneReading.{one_list, stuck}
use Rattle.gtd_text.specs.declared.token.Token.{Token}
use Rattle.gtd_text.specs.ComputedLexing.{IsToken, AreTokens, IsTokenFault}
use Rattle.gtd_text.specs.TokenAt.{kind_at_front, token_from, token_at}
use Rattle.std.proofs.Common.{Result, Ok, Err, ◌⊎◌}
use Rattle.std.specs.Prelude.{IfOk, IfErr, MatchResult}
use Rattle.gtd_core.specs.declared.fault.TextFault.{TextFault}
use Rattle.gtd_text.specs.Faults.{no_memory}
use Rattle.gtd_text.specs.facts.TokenForms.{are_computed, computed}
use Rattle.gtd_text.specs.facts.Lexed.{found}

none_front : (text : List ℕ) (place : ℕ) (token : Token) → kind_at_front (drop place text) ≡ None → token_at text place
    ≡ Some token → ⊥
none_front text place token e h =
    let same : token_at text place ≡ None = ap (token_from place) e in cc

-- a token begins inside the text, and not at a space
pub inside_at : (text : List ℕ) (place : ℕ) (token : Token) → token_at text place ≡ Some token → place < length text
inside_at text place token h = elim (cases_lt place (length text)) [
  | inl lt ↦ lt
  | inr le ↦ absurd (none_front text place token (ap kind_at_front (drop_all place text le)) h)
]

no_space_at : (text : List ℕ) (place : ℕ) (token : Token) → token_at text place ≡ Some token → slice_index text place ≡ 32 → ⊥
no_space_at text place token h space =
    let lt = inside_at text place token h in
    let front : drop place text ≡ slice_index text place ∷ drop (place + 1) text = rw add-one (drop-cons text place 0 lt) in
    none_front text place token (ap kind_at_front front ∙ ap (λ b. kind_at_front (b ∷ drop (place + 1) text)) space) h

pub begins_at_no_space : (text : List ℕ) (token : Token) → IsToken text token → slice_index text token.from ≡ 32 → ⊥
begins_at_no_space text token h space = no_space_at text token.from token (computed text token h) space

-- a token ends after it begins
pub goes_on : (text : List ℕ) (token : Token) → IsToken text token → token.from < token.to
goes_on text token h = let here = found text token.from token (inside_at text token.from token (computed text token h))
    (computed text token h) in here.past

-- the tokens of a text are a language
pub is_language : (text : List ℕ) → IsLanguage (λ (token : Token). token.from) (λ (token : Token). token.to) (IsToken text) text
is_language text =
    record { goes_on = goes_on text; no_space = begins_at_no_space text; one_token = one_token (are_computed text) }

-- what is found is all there is
pub only_tokens : {V : Type 0} (items : V → List Token) (text : List ℕ) (r : Result V TextFault)
    → IfOk r (λ v. AreTokens text (items v)) → IfErr r (λ fault. (fault ≡ no_memory) ⊎ IsTokenFault text fault)
    → (all : List Token) → AreTokens text all → MatchResult r (λ v. items v ≡ all) (λ fault. fault ≡ no_memory)
only_tokens items text (Ok v) h k all are = one_list (is_language text) 0 (items v) all (length text) h are
only_tokens items text (Err fault) h k all are = elim k [
  | inl memory ↦ memory
  | inr bad ↦ absurd (stuck (is_language text) 0 bad.before fault.place all bad.reads bad.inside bad.no_space bad.no_token are)
]
