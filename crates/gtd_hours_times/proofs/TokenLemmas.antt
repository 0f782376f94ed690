-- The tokens of a text: those of plain hours and parentheses are a language; and what has been read of a text so far.
use Rattle.std.proofs.Common.{◌≡◌, ◌≢◌, ◌∙◌, ℕ, ◌+◌, ◌<◌, List, [], ◌∷◌, ◌++◌, length, drop, Option, Some, None, Ok}
use Rattle.std.proofs.Common.{refl, sym, ap, subst, arith, inl, inr, drop-cons, add-one}
use Rattle.std.proofs.lemmas.Bool.{cases_eq}
use Rattle.std.proofs.lemmas.Bool.Decides.{nat_tests}
use Rattle.std.proofs.lemmas.List.{append-nil}
use Rattle.std.specs.Prelude.{slice_index, option_map}
use Rattle.gtd_scan.specs.Tokens.{IsLanguage}
use Rattle.gtd_scan.specs.facts.Computed.{one_token}
use Rattle.gtd_scan.specs.facts.OneReading.{HasReadTokens, one_list as one_list_of, one_stop, stuck, token_more}
use Rattle.gtd_hours_tokens.specs.Lexing.{AreSpaces, BeginsNoToken, IsStop, IsToken}
use Rattle.gtd_hours_tokens.specs.TokenAt.{front, placed, token_at}
use Rattle.gtd_hours_tokens.specs.declared.token.Token.{Token}
use Rattle.gtd_hours_tokens.specs.facts.TokenForms.{are_computed, begins_inside, goes_on, no_space}
use Rattle.gtd_hours_times.specs.declared.times.TimeKind.{TimeKind}
use Rattle.gtd_hours_times.specs.declared.times.TimeToken.{TimeToken}
use Rattle.gtd_hours_times.specs.Tokens.{AreTimeTokens, BeginsNone, IsNextTime, IsTimeFault, IsTimeStop, IsTimeToken}
use Rattle.gtd_hours_times.specs.Tokens.{parenthesis, parenthesis_at, plain, sign, sign_at, time_token}

-- ---- parentheses are no tokens of plain hours

no_parenthesis : (byte : ℕ) → byte ≢ 40 → byte ≢ 41 → parenthesis byte ≡ None
no_parenthesis byte a b = grind (arith, nat_tests)

none_at_sign : (byte : ℕ) (k : TimeKind) → parenthesis byte ≡ Some k → (rest : List ℕ) → front (byte ∷ rest) ≡ None
none_at_sign byte k e rest = elim (cases_eq byte 40) [
  | inl is ↦ subst (λ (b : ℕ). front (b ∷ rest) ≡ None) (sym is) refl
  | inr other ↦ elim (cases_eq byte 41) [
    | inl is ↦ subst (λ (b : ℕ). front (b ∷ rest) ≡ None) (sym is) refl
    | inr none ↦ let both : Some k ≡ None = sym e ∙ no_parenthesis byte other none in absurd cc
  ]
]

not_both : (text : List ℕ) (t : Token) (token : TimeToken) (o : Option TimeKind) → IsToken text t
    → parenthesis (slice_index text t.from) ≡ o → option_map (sign_at t.from) o ≡ Some token → ⊥
not_both text t token None is e f = cc
not_both text t token (Some k) is e f =
    let split : drop t.from text ≡ slice_index text t.from ∷ drop (t.from + 1) text =
    rw add-one (drop-cons text t.from 0 (begins_inside text t is)) in
    let none : front (drop t.from text) ≡ None =
    ap front split ∙ none_at_sign (slice_index text t.from) k e (drop (t.from + 1) text) in
    let made : token_at text t.from ≡ None = ap (option_map (placed t.from)) none in
    let both : Some t ≡ None = sym ((are_computed text).computed t is) ∙ made in
    cc

-- where a token of plain hours begins, no parenthesis stands
no_sign : (text : List ℕ) (t : Token) (token : TimeToken) → IsToken text t → parenthesis_at text t.from ≡ Some token → ⊥
no_sign text t token is e = not_both text t token (parenthesis (slice_index text t.from)) is refl e

-- ---- the tokens are a language

sign_ends : (place : ℕ) (token : TimeToken) (o : Option TimeKind) → option_map (sign_at place) o ≡ Some token
    → token.to ≡ place + 1
sign_ends place token None e = absurd cc
sign_ends place token (Some k) e =
    let same : sign_at place k ≡ token = cc in sym (ap (λ (t : TimeToken). t.to) same)

some_byte : (text : List ℕ) (token : TimeToken) → IsTimeToken text token → token.from < token.to
some_byte text token (plain t is e) = subst (λ (x : TimeToken). x.from < x.to) (sym e) (goes_on text t is)
some_byte text token (sign lt e) =
    let end = sign_ends token.from token (parenthesis (slice_index text token.from)) e in omega (arith, end)

not_space : (text : List ℕ) (token : TimeToken) → IsTimeToken text token → slice_index text token.from ≡ 32 → ⊥
not_space text token (plain t is e) space =
    no_space text t is (subst (λ (x : TimeToken). slice_index text x.from ≡ 32) e space)
not_space text token (sign lt e) space =
    let none : parenthesis_at text token.from ≡ None =
    ap (λ (b : ℕ). option_map (sign_at token.from) (parenthesis b)) space in
    let both : Some token ≡ None = sym e ∙ none in
    cc

same_plain : (text : List ℕ) (t u : Token) → IsToken text t → IsToken text u → t.from ≡ u.from
    → time_token text t ≡ time_token text u
same_plain text t u is so same = ap (time_token text) (one_token (are_computed text) t u is so same)

one_at : (text : List ℕ) (a b : TimeToken) → IsTimeToken text a → IsTimeToken text b → a.from ≡ b.from → a ≡ b
one_at text a b (plain t is e) (plain u so f) same =
    let from : t.from ≡ u.from =
    sym (ap (λ (x : TimeToken). x.from) e) ∙ same ∙ ap (λ (x : TimeToken). x.from) f in
    e ∙ same_plain text t u is so from ∙ sym f
one_at text a b (plain t is e) (sign lt f) same =
    let from : b.from ≡ t.from = sym same ∙ ap (λ (x : TimeToken). x.from) e in
    absurd (no_sign text t b is (subst (λ (n : ℕ). parenthesis_at text n ≡ Some b) from f))
one_at text a b (sign lt e) (plain u so f) same =
    let from : a.from ≡ u.from = same ∙ ap (λ (x : TimeToken). x.from) f in
    absurd (no_sign text u a so (subst (λ (n : ℕ). parenthesis_at text n ≡ Some a) from e))
one_at text a b (sign lt e) (sign less f) same =
    let both : Some a ≡ Some b = sym e ∙ ap (parenthesis_at text) same ∙ f in cc

is_language : (text : List ℕ)
    → IsLanguage (λ (token : TimeToken). token.from) (λ (token : TimeToken). token.to) (IsTimeToken text) text
is_language text = record { goes_on = some_byte text; no_space = not_space text; one_token = one_at text }

-- ---- one reading

pub one_list : (text : List ℕ) (one other : List TimeToken) → AreTimeTokens text one → AreTimeTokens text other → one ≡ other
one_list text one other h k = one_list_of (is_language text) 0 one other (length text) h k

pub one_fault : (text : List ℕ) (one other : ℕ) → IsTimeFault text one → IsTimeFault text other → one ≡ other
one_fault text one other h k =
    one_stop (is_language text) 0 h.before k.before one other h.reads k.reads h.no_space k.no_space h.no_token k.no_token

pub apart : (text : List ℕ) (tokens : List TimeToken) (place : ℕ) → AreTimeTokens text tokens → IsTimeFault text place → ⊥
apart text tokens place are h =
    stuck (is_language text) 0 h.before place tokens h.reads h.inside h.no_space h.no_token are

-- ---- what comes next

begins_none : (text : List ℕ) (place : ℕ) → BeginsNoToken text place → parenthesis_at text place ≡ None → BeginsNone text place
begins_none text place none bare token (plain t is e) at =
    none t is (sym (ap (λ (x : TimeToken). x.from) e) ∙ at)
begins_none text place none bare token (sign lt e) at =
    let both : Some token ≡ None = sym e ∙ ap (parenthesis_at text) at ∙ bare in cc

pub stop_time : (text : List ℕ) (from place : ℕ) → IsStop text from place → parenthesis_at text place ≡ None
    → IsTimeStop text from place
stop_time text from place stop none = record {
  spaces = stop.spaces;
  inside = stop.inside;
  no_space = stop.no_space;
  no_token = begins_none text place stop.no_token none;
}

-- ---- what has been read

-- These tokens were read up to a place.
pub record HasTokens (text : List ℕ) (tokens : List TimeToken) (place : ℕ) : Type 0 where
  pub go_on : HasReadTokens (λ (token : TimeToken). token.from) (λ (token : TimeToken). token.to) (IsTimeToken text) text tokens
      place

pub with_token : (text : List ℕ) (tokens : List TimeToken) (place : ℕ) (token : TimeToken) → HasTokens text tokens place
    → AreSpaces text place token.from → IsTimeToken text token → HasTokens text (tokens ++ token ∷ []) token.to
with_token text tokens place token h spaces is = record {
  go_on = token_more (λ (token : TimeToken). token.from) (λ (token : TimeToken). token.to) (IsTimeToken text) text tokens place
      token h.go_on spaces is;
}

-- where none is next, they are all
pub all_tokens : (text : List ℕ) (tokens : List TimeToken) (place : ℕ) (next : Option TimeToken) → HasTokens text tokens place
    → IsNextTime text place (Ok next) → ((token : TimeToken) → next ≡ Some token → ⊥) → AreTimeTokens text tokens
all_tokens text tokens place None h is none =
    subst (λ (l : List TimeToken). AreTimeTokens text l) (append-nil tokens) (h.go_on [] (length text) is)
all_tokens text tokens place (Some token) h is none = absurd (none token refl)

pub fault_read : (text : List ℕ) (tokens : List TimeToken) (from place : ℕ) → HasTokens text tokens from
    → IsTimeStop text from place → IsTimeFault text place
fault_read text tokens from place h stop = record {
  before = tokens ++ [];
  reads = h.go_on [] place stop.spaces;
  inside = stop.inside;
  no_space = stop.no_space;
  no_token = stop.no_token;
}
