-- A text is read as an expression exactly if it stands for it and has no fault.
use Rattle.std.proofs.Common.{List, ℕ, length, ◌↔◌, inl, inr, subst}
use Rattle.std.specs.Prelude.{Ok}
use Rattle.gtd_core.specs.Trees.{Tree}
use Rattle.gtd_core.specs.declared.fault.TextFault.{TextFault}
use Rattle.gtd_text.specs.declared.token.Token.{Token}
use Rattle.gtd_text.specs.FirstFault.{IsFirstFault}
use Rattle.gtd_text.specs.Lexing.{AreTokens}
use Rattle.gtd_text.specs.Reading.{HasNoFault, IsReading, StandsFor}
use Rattle.gtd_text.specs.facts.LexingForms.{fault_in_parts, tokens_in_parts}
use Rattle.gtd_scan.specs.facts.OneReading.{one_list, stuck}
use Rattle.gtd_text.specs.facts.Unique.{is_language}

pub is_reading : (text : List ℕ) (e : Tree) → StandsFor text e → HasNoFault text → IsReading text (Ok e)
is_reading text e is none = (is.tokens, is.read, is.stand, λ fault first. none fault (inr (is.tokens, is.read, first)))

pub stands_for : (text : List ℕ) (e : Tree) → IsReading text (Ok e) → StandsFor text e
stands_for text e is = record { tokens = is.0; read = is.1; stand = is.2 }

-- tokens without a fault are those of a text without a fault
faultless_tokens : (text : List ℕ) (tokens : List Token) → AreTokens text tokens
    → ((fault : TextFault) → IsFirstFault (length text) tokens fault → ⊥) → HasNoFault text
faultless_tokens text tokens are none fault (inl is) =
    let bad = fault_in_parts text fault is in
    stuck (is_language text) 0 bad.before fault.place tokens bad.reads bad.inside bad.no_space bad.no_token
    (tokens_in_parts text tokens are)
faultless_tokens text tokens are none fault (inr bad) =
    let same = one_list (is_language text) 0 bad.0 tokens (length text) (tokens_in_parts text bad.0 bad.1)
    (tokens_in_parts text tokens are) in
    none fault (subst (λ (l : List Token). IsFirstFault (length text) l fault) same bad.2)

pub faultless : (text : List ℕ) (e : Tree) → IsReading text (Ok e) → HasNoFault text
faultless text e is = faultless_tokens text is.0 is.1 is.3

pub readings_agree : (text : List ℕ) (e : Tree) → IsReading text (Ok e) ↔ (StandsFor text e × HasNoFault text)
readings_agree text e = (λ is. (stands_for text e is, faultless text e is), λ both. is_reading text e both.0 both.1)
