-- Each text stands for an expression without a fault, or has a fault.
use Rattle.std.proofs.Common.{◌≡◌, ℕ, zero, suc, ◌≤◌, ◌<◌, ◌+◌, List, [], ◌∷◌, ◌++◌, length, drop, Option, Some, None, refl}
use Rattle.std.proofs.Common.{subst, arith, ◌⊎◌, inl, inr}
use Rattle.std.specs.Prelude.{slice_index, ◌≢◌}
use Rattle.std.proofs.lemmas.Bool.{cases_eq}
use Rattle.gtd_core.specs.Trees.{Tree}
use Rattle.gtd_core.specs.declared.fault.TextFault.{TextFault}
use Rattle.gtd_text.specs.declared.token.Token.{Token}
use Rattle.gtd_text.specs.Found.{fault_of_tokens}
use Rattle.gtd_text.specs.ComputedLexing.{AreTokens, IsTokenFault, Reads}
use Rattle.gtd_text.specs.Reading.{HasNoFault, IsFault, StandsFor}
use Rattle.gtd_text.specs.TokenAt.{fault_at_front, token_at}
use Rattle.gtd_text.specs.facts.Lexed.{HasRead, all_read, found, read_more, read_space}
use Rattle.gtd_text.specs.facts.LexingForms.{fault_of_parts, tokens_of_parts}
use Rattle.gtd_text.specs.facts.ReadingLaws.{no_fault, readable}
use Rattle.gtd_text.specs.facts.Phases.{found_first}
use Rattle.gtd_scan.specs.facts.Computed.{no_token}
use Rattle.gtd_text.specs.facts.TokenForms.{are_computed, fault_agrees}

-- the text is spaces and tokens
record IsLexed (text : List ℕ) : Type 0 where
  tokens : List Token
  read : AreTokens text tokens

-- the text is tokens, or the first byte that begins none is at fault
abbrev IsLexedOrNot : List ℕ → Type 0
IsLexedOrNot text = IsLexed text ⊎ ((fault : TextFault) × IsTokenFault text fault)

-- what is read from each later place on is read from here on, too
abbrev GoesOnFrom : List ℕ → ℕ → Type 0
GoesOnFrom text place = (before : List Token) (later : ℕ) → place < later → later ≤ length text → HasRead text before later
    → IsLexedOrNot text

at_token : (text : List ℕ) (before : List Token) (place : ℕ) → place < length text → slice_index text place ≢ 32
    → HasRead text before place → GoesOnFrom text place → (o : Option Token) → token_at text place ≡ o → IsLexedOrNot text
at_token text before place lt other h go None e = inr (
  record { kind = fault_at_front (drop place text); place = place },
  record {
    before = before;
    reads = all_read text before place h;
    inside = lt;
    no_space = other;
    no_token = no_token (are_computed text) place e;
    kind = (fault_agrees text place (fault_at_front (drop place text))).1 refl;
  },
)
at_token text before place lt other h go (Some token) e =
    let here = found text place token lt e in
    go (before ++ token ∷ []) token.to here.past here.inside (read_more text before place token h here)

at_byte : (text : List ℕ) (before : List Token) (place : ℕ) → place < length text → HasRead text before place
    → GoesOnFrom text place → IsLexedOrNot text
at_byte text before place lt h go =
    elim (cases_eq (slice_index text place) 32) [
      | inl space ↦ go before (place + 1) (omega arith) (omega arith) (read_space text before place space h)
      | inr other ↦ at_token text before place lt other h go (token_at text place) refl
    ]

at_end : (text : List ℕ) (before : List Token) (place : ℕ) → HasRead text before place → place ≡ length text
    → IsLexedOrNot text
at_end text before place h same =
    inl (record { tokens = before; read = subst (λ n. Reads text 0 before n) same (all_read text before place h) })

-- from a place on, with at most so many bytes to come
lexed : (text : List ℕ) (left : ℕ) (before : List Token) (place : ℕ) → place ≤ length text → length text ≤ place + left
    → HasRead text before place → IsLexedOrNot text
lexed text zero before place inside enough h = at_end text before place h (omega (arith, inside, enough))
lexed text (suc left) before place inside enough h =
    elim (cases_eq place (length text)) [
      | inl same ↦ at_end text before place h same
      | inr other ↦ at_byte text before place (omega (arith, inside, other)) h
          (λ more later past within r. lexed text left more later within (omega (arith, enough, past)) r)
    ]

abbrev Answers : List ℕ → Type 0
Answers text = ((e : Tree) × StandsFor text e × HasNoFault text) ⊎ ((fault : TextFault) × IsFault text fault)

of_tokens : (text : List ℕ) (tokens : List Token) → AreTokens text tokens → (o : Option TextFault)
    → fault_of_tokens (length text) tokens ≡ o → Answers text
of_tokens text tokens are None e =
    let r = readable text tokens (length text) are e in
    inl (r.tree, record { tokens = tokens; read = tokens_of_parts text tokens are; stand = r.stand }, no_fault text tokens are e)
of_tokens text tokens are (Some fault) e =
    inr (fault, inr (tokens, tokens_of_parts text tokens are, found_first (length text) tokens fault e))

pub each_text : (text : List ℕ) → Answers text
each_text text =
    elim (lexed text (length text) [] 0 (omega arith) (omega arith) (λ more to r. r)) [
      | inl is ↦ of_tokens text is.tokens is.read (fault_of_tokens (length text) is.tokens) refl
      | inr bad ↦ inr (bad.0, inl (fault_of_parts text bad.0 bad.1))
    ]
