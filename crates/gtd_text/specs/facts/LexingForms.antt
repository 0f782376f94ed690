-- A text is made of tokens, or has a fault of its bytes, exactly if it is so in the form that proofs take apart.
use Rattle.std.proofs.Common.{◌≡◌, ◌≢◌, ◌∙◌, ◌<◌, ◌↔◌, ◌⊎◌, refl, sym, ap, subst, arith, inl, inr, ℕ, zero, suc}
use Rattle.std.proofs.Common.{List, [], ◌∷◌, ◌++◌, length, true, Some, None}
use Rattle.std.specs.Prelude.{Contains, slice_index_or}
use Rattle.gtd_scan.specs.facts.Computed.{none_agrees, token_agrees}
use Rattle.gtd_core.specs.FieldTable.{is_from_to}
use Rattle.gtd_core.specs.declared.fault.Fault.{Fault}
use Rattle.gtd_core.specs.declared.fault.Fault.TheVariants as faults
use Rattle.gtd_core.specs.declared.fault.TextFault.{TextFault}
use Rattle.gtd_text.specs.declared.token.Token.{Token}
use Rattle.gtd_text.specs.declared.token.TokenKind.{TokenKind}
use Rattle.gtd_text.specs.declared.token.TokenKind.TheVariants.{OpenBracket, CloseBracket, OpenParenthesis, CloseParenthesis}
use Rattle.gtd_text.specs.declared.token.TokenKind.TheVariants.{OpenBrace, CloseBrace, Plus, Star, Minus, Field}
use Rattle.gtd_text.specs.ComputedLexing as parts
use Rattle.gtd_text.specs.ComputedLexing.{IsSign, IsFaultAt, fuzzy, bad}
use Rattle.gtd_text.specs.Lexing.{AreTokens, HasDigits, IsToken, IsTokenFault, Reads, field, sign, signs}
use Rattle.gtd_text.specs.TokenAt.{token_at}
use Rattle.gtd_text.specs.facts.TokenForms.{are_computed, few_digits, front_of, has_digits}

-- ---- signs

abbrev AreSigns : List (TokenKind × ℕ) → Type 0
AreSigns [] = Unit {0}
AreSigns (pair ∷ pairs) = IsSign pair.0 pair.1 × AreSigns pairs

sign_found : (pairs : List (TokenKind × ℕ)) → AreSigns pairs → (kind : TokenKind) (byte k : ℕ) → k < length pairs
    → slice_index_or pairs k (kind, byte) ≡ (kind, byte) → IsSign kind byte
sign_found [] are kind byte k lt e = absurd (omega arith)
sign_found (pair ∷ pairs) are kind byte zero lt e = subst (λ (p : TokenKind × ℕ). IsSign p.0 p.1) e are.0
sign_found (pair ∷ pairs) are kind byte (suc k) lt e = sign_found pairs are.1 kind byte k (omega arith) e

all_signs : AreSigns signs
all_signs = (refl, (refl, (refl, (refl, (refl, (refl, (refl, (refl, (refl, tt)))))))))

sign_in_parts : (kind : TokenKind) (byte : ℕ) → Contains signs (kind, byte) → IsSign kind byte
sign_in_parts kind byte among = sign_found signs all_signs kind byte among.0 among.1 among.2

listed : (kind : TokenKind) (byte own k : ℕ) → k < 9 → ((pair : TokenKind × ℕ) → slice_index_or signs k pair ≡ (kind, own))
    → byte ≡ own → Contains signs (kind, byte)
listed kind byte own k lt at e = (k, lt, at (kind, byte) ∙ ap (λ (b : ℕ). (kind, b)) (sym e))

sign_of_parts : (kind : TokenKind) (byte : ℕ) → IsSign kind byte → Contains signs (kind, byte)
sign_of_parts OpenBracket byte e = listed OpenBracket byte 91 0 (omega arith) (λ pair. refl) e
sign_of_parts CloseBracket byte e = listed CloseBracket byte 93 1 (omega arith) (λ pair. refl) e
sign_of_parts OpenParenthesis byte e = listed OpenParenthesis byte 40 2 (omega arith) (λ pair. refl) e
sign_of_parts CloseParenthesis byte e = listed CloseParenthesis byte 41 3 (omega arith) (λ pair. refl) e
sign_of_parts OpenBrace byte e = listed OpenBrace byte 123 4 (omega arith) (λ pair. refl) e
sign_of_parts CloseBrace byte e = listed CloseBrace byte 125 5 (omega arith) (λ pair. refl) e
sign_of_parts Plus byte e = listed Plus byte 43 6 (omega arith) (λ pair. refl) e
sign_of_parts Star byte e = listed Star byte 42 7 (omega arith) (λ pair. refl) e
sign_of_parts Minus byte e = listed Minus byte 45 8 (omega arith) (λ pair. refl) e
sign_of_parts (Field letter value digits) byte e = absurd e

-- ---- a letter and its digits

digits_in_parts : (text : List ℕ) (place letter : ℕ) (digits : List ℕ) → HasDigits text place letter digits
    → parts.HasDigits text place letter digits
digits_in_parts text place letter digits h =
    subst (λ (l : List ℕ). parts.HasDigits text place letter l) (sym h.2)
    (has_digits text place letter h.0 h.1 (subst (λ (l : List ℕ). is_from_to 1 6 (length l) ≡ true) h.2 h.3))

digits_of_parts : (text : List ℕ) (place letter : ℕ) (digits : List ℕ) → parts.HasDigits text place letter digits
    → HasDigits text place letter digits
digits_of_parts text place letter digits h =
    (digits ++ h.rest, h.stand, sym (front_of text place letter digits h), few_digits digits h.some h.few)

-- ---- a token

pub token_in_parts : (text : List ℕ) (token : Token) → IsToken text token → parts.IsToken text token
token_in_parts text token (sign byte rest e among to) = parts.sign byte rest e (sign_in_parts token.kind byte among) to
token_in_parts text token (field letter digits known h k to) =
    parts.field letter digits known (digits_in_parts text token.from letter digits h) k to

pub token_of_parts : (text : List ℕ) (token : Token) → parts.IsToken text token → IsToken text token
token_of_parts text token (parts.sign byte rest e is to) = sign byte rest e (sign_of_parts token.kind byte is) to
token_of_parts text token (parts.field letter digits known h k to) =
    field letter digits known (digits_of_parts text token.from letter digits h) k to

-- ---- the tokens of a text

reads_in_parts : (text : List ℕ) (from : ℕ) (tokens : List Token) (to : ℕ) → Reads text from tokens to
    → parts.Reads text from tokens to
reads_in_parts text from [] to h = h
reads_in_parts text from (token ∷ tokens) to h =
    (h.0, token_in_parts text token h.1, reads_in_parts text token.to tokens to h.2)

reads_of_parts : (text : List ℕ) (from : ℕ) (tokens : List Token) (to : ℕ) → parts.Reads text from tokens to
    → Reads text from tokens to
reads_of_parts text from [] to h = h
reads_of_parts text from (token ∷ tokens) to h =
    (h.0, token_of_parts text token h.1, reads_of_parts text token.to tokens to h.2)

pub tokens_in_parts : (text : List ℕ) (tokens : List Token) → AreTokens text tokens → parts.AreTokens text tokens
tokens_in_parts text tokens h = reads_in_parts text 0 tokens (length text) h

pub tokens_of_parts : (text : List ℕ) (tokens : List Token) → parts.AreTokens text tokens → AreTokens text tokens
tokens_of_parts text tokens h = reads_of_parts text 0 tokens (length text) h

-- ---- the fault of a text's bytes

-- which fault it is that no token begins at a place
abbrev IsKindAt : List ℕ → ℕ → Fault → Type 0
IsKindAt text place kind = ((digits : List ℕ) × HasDigits text place 122 digits × (kind ≡ faults.Fuzzy))
    ⊎ (((digits : List ℕ) → HasDigits text place 122 digits → ⊥) × (kind ≡ faults.BadToken))

kind_in_parts : (text : List ℕ) (place : ℕ) (kind : Fault) → IsKindAt text place kind → IsFaultAt text place kind
kind_in_parts text place kind (inl is) = fuzzy is.0 (digits_in_parts text place 122 is.0 is.1) is.2
kind_in_parts text place kind (inr is) = bad (λ digits h. is.0 digits (digits_of_parts text place 122 digits h)) is.1

kind_of_parts : (text : List ℕ) (place : ℕ) (kind : Fault) → IsFaultAt text place kind → IsKindAt text place kind
kind_of_parts text place kind (fuzzy digits h e) = inl (digits, digits_of_parts text place 122 digits h, e)
kind_of_parts text place kind (bad none e) = inr (λ digits h. none digits (digits_in_parts text place 122 digits h), e)

pub fault_in_parts : (text : List ℕ) (fault : TextFault) → IsTokenFault text fault → parts.IsTokenFault text fault
fault_in_parts text fault h = record {
  before = h.before;
  reads = reads_in_parts text 0 h.before fault.place h.reads;
  inside = h.inside;
  no_space = h.no_space;
  no_token = λ token is at. h.no_token token (token_of_parts text token is) at;
  kind = kind_in_parts text fault.place fault.kind h.kind;
}

pub fault_of_parts : (text : List ℕ) (fault : TextFault) → parts.IsTokenFault text fault → IsTokenFault text fault
fault_of_parts text fault h = record {
  before = h.before;
  reads = reads_of_parts text 0 h.before fault.place h.reads;
  inside = h.inside;
  no_space = h.no_space;
  no_token = λ token is at. h.no_token token (token_in_parts text token is) at;
  kind = kind_of_parts text fault.place fault.kind h.kind;
}

-- ---- what is computed

pub token_computed : (text : List ℕ) (token : Token) → IsToken text token ↔ (token_at text token.from ≡ Some token)
token_computed text token = (
  λ is. (token_agrees (are_computed text) token).0 (token_in_parts text token is),
  λ e. token_of_parts text token ((token_agrees (are_computed text) token).1 e),
)

pub none_computed : (text : List ℕ) (place : ℕ) → ((token : Token) → IsToken text token → token.from ≢ place)
    ↔ (token_at text place ≡ None)
none_computed text place = (
  λ none. (none_agrees (are_computed text) place).0 (λ token is at. none token (token_of_parts text token is) at),
  λ e token is at. (none_agrees (are_computed text) place).1 e token (token_in_parts text token is) at,
)
