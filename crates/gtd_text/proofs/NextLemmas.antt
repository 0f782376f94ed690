-- The next token from a place on.
use Rattle.std.proofs.Common.{◌≡◌, ◌≢◌, ℕ, ◌≤◌, ◌<◌, List, [], ◌∷◌, length, drop, Option, Some, None, refl, sym}
use Rattle.std.proofs.Common.{ap, subst, ◌∙◌, arith}
use Rattle.std.proofs.Common.{inl, inr}
use Rattle.std.specs.Prelude.{slice_index, IfSome}
use Rattle.std.proofs.lemmas.Bool.{cases_order}
use Rattle.gtd_text.specs.declared.token.Token.{Token}
use Rattle.gtd_core.specs.declared.fault.TextFault.{TextFault}
use Rattle.gtd_text.specs.Lexing.{AreSpaces}
use Rattle.gtd_text.specs.ComputedLexing.{BeginsNoToken, IsFaultAt, IsTokenFault, Reads}
use Rattle.gtd_text.specs.TokenAt.{token_at, fault_at_front}
use Rattle.gtd_text.specs.ToCome.{IsNextFrom, IsThere}
use Rattle.gtd_text.specs.facts.Lexed.{found}
use Rattle.gtd_text.specs.facts.TokenForms.{are_computed, computed, fault_agrees}
use Rattle.gtd_scan.specs.facts.Computed.{no_token}
use Rattle.gtd_scan.specs.facts.OneReading.{ends_after}
use Rattle.gtd_text.specs.facts.Unique.{inside_at, begins_at_no_space, goes_on, is_language}

-- the first of the tokens begins where the spaces end
begins_there : (text : List ℕ) (place from : ℕ) (token : Token) (others : List Token) → AreSpaces text place from
    → (from < length text → slice_index text from ≢ 32) → Reads text place (token ∷ others) (length text) → token.from ≡ from
begins_there text place from token others spaces ends reads = elim (cases_order token.from from) [
  | inl same ↦ same
  | inr (inl less) ↦ absurd (begins_at_no_space text token reads.1 (spaces.1 token.from reads.0.0 less))
  | inr (inr more) ↦
      let inside : from < length text =
      omega (arith, more, goes_on text token reads.1, ends_after (is_language text) token.to others (length text) reads.2) in
      absurd (ends inside (reads.0.1 from spaces.0 more))
]

pub next_is : (text : List ℕ) (place from : ℕ) (next : Option Token) → AreSpaces text place from
    → (from < length text → slice_index text from ≢ 32) → token_at text from ≡ next → IsNextFrom text place next
next_is text place from None spaces ends is [] reads = refl
next_is text place from None spaces ends is (token ∷ others) reads =
    let there = begins_there text place from token others spaces ends reads in
    let both : Some token ≡ None = sym (computed text token reads.1) ∙ ap (token_at text) there ∙ is in
    absurd cc
next_is text place from (Some next) spaces ends is [] reads =
    let inside = inside_at text from next is in
    absurd (ends inside (reads.1 from spaces.0 inside))
next_is text place from (Some next) spaces ends is (token ∷ others) reads =
    let there = begins_there text place from token others spaces ends reads in
    let both : Some token ≡ Some next = sym (computed text token reads.1) ∙ ap (token_at text) there ∙ is in
    let same : token ≡ next = cc in (
      others,
      ap (λ (t : Token). t ∷ others) same,
      subst (λ (t : Token). Reads text t.to others (length text)) same reads.2,
    )

pub next_there : (text : List ℕ) (place from : ℕ) (next : Option Token) → AreSpaces text place from → token_at text from ≡ next
    → IfSome next (λ token. IsThere text place token)
next_there text place from None spaces is = tt
next_there text place from (Some token) spaces is =
    let here = found text from token (inside_at text from token is) is in
    (subst (λ n. AreSpaces text place n) (sym here.from) spaces, here.again)

pub next_past : (text : List ℕ) (place from : ℕ) (next : Option Token) → place ≤ from → token_at text from ≡ next
    → IfSome next (λ token. place < token.to)
next_past text place from None le is = tt
next_past text place from (Some token) le is =
    let here = found text from token (inside_at text from token is) is in
    omega (arith, le, here.past)

pub next_inside : (text : List ℕ) (from : ℕ) (next : Option Token) → token_at text from ≡ next
    → IfSome next (λ token. token.to ≤ length text)
next_inside text from None is = tt
next_inside text from (Some token) is =
    let here = found text from token (inside_at text from token is) is in here.inside

-- after these tokens none begins
pub none_begins : (text : List ℕ) (before : List Token) (place : ℕ) (fault : TextFault) → Reads text 0 before place
    → place < length text → slice_index text place ≢ 32 → token_at text place ≡ None
    → fault.kind ≡ fault_at_front (drop place text) → fault.place ≡ place → IsTokenFault text fault
none_begins text before place fault reads inside no_space none kind at =
    let same = sym at in
    record {
      before = before;
      reads = subst (λ n. Reads text 0 before n) same reads;
      inside = subst (λ n. n < length text) same inside;
      no_space = subst (λ n. slice_index text n ≢ 32) same no_space;
      no_token = subst (BeginsNoToken text) same (no_token (are_computed text) place none);
      kind = subst (λ n. IsFaultAt text n fault.kind) same ((fault_agrees text place fault.kind).1 kind);
    }
