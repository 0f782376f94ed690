-- Tokens without a fault stand for what they build.
use Rattle.std.proofs.Common.{◌≡◌, ℕ, Bool, true, false, cond, List, [], ◌∷◌, length, Option, Some, None, refl, sym, ap, ◌∙◌}
use Rattle.std.proofs.Common.{◌≤◌, subst, Result, Ok, Err, ◌⊎◌, inl, inr, arith}
use Rattle.std.specs.Prelude.{◌&&◌, is_some, IfOk, IfErr, MatchResult}
use Rattle.std.specs.Option.{option_or}
use Rattle.gtd_core.specs.declared.fault.TextFault.{TextFault}
use Rattle.gtd_core.specs.declared.fault.Fault.{Fault}
use Rattle.gtd_core.specs.Trees.{Tree, AreValid, leaf_count}
use Rattle.gtd_text.specs.declared.token.Token.{Token}
use Rattle.gtd_text.specs.declared.token.TokenKind.{TokenKind}
use Rattle.gtd_text.specs.Fitting.{fits, may_end}
use Rattle.gtd_text.specs.Found.{fault_after, fault_of_tokens, too_deep_after, too_many_after, too_long}
use Rattle.gtd_text.specs.facts.Linked.{all_fit, all_fit_builds}
use Rattle.gtd_text.specs.Lexing.{kinds}
use Rattle.gtd_text.specs.ComputedLexing.{AreTokens, IsFaultAt, IsTokenFault}
use Rattle.gtd_text.specs.Grammar.{Stands, Sum}
use Rattle.gtd_text.specs.Building.{build, at_front}
use Rattle.gtd_text.specs.Reading.{StandsFor, IsFault, HasNoFault}
use Rattle.gtd_text.specs.Faults.{no_memory}
use Rattle.gtd_text.specs.facts.Phases.{first_found}
use Rattle.gtd_text.specs.facts.BuiltIsMeant.{stood_whole}
use Rattle.gtd_text.specs.facts.ShortNumbers.{are_short}
use Rattle.gtd_text.specs.facts.Valid.{valid, leaves, few_open, fine}
use Rattle.gtd_scan.specs.facts.OneReading.{one_list, stuck, one_stop}
use Rattle.gtd_text.specs.facts.Unique.{is_language}
use Rattle.gtd_text.specs.facts.OneMeaning.{one_meaning}
use Rattle.gtd_text.specs.facts.TokenForms.{one_fault_at}
use Rattle.gtd_text.specs.facts.LexingForms.{fault_in_parts, fault_of_parts, tokens_in_parts}

ends_well : (b : Bool) (fault : TextFault) → cond b None (Some fault) ≡ None → b ≡ true
ends_well true fault e = refl
ends_well false fault e = absurd cc

goes_well : (b : Bool) (fault : TextFault) (later : Option TextFault) → cond b later (Some fault) ≡ None → (b ≡ true)
    × (later ≡ None)
goes_well true fault later e = (refl, e)
goes_well false fault later e = absurd cc

-- with no fault all tokens fit
pub no_fault_fits : (len : ℕ) (before : List TokenKind) (tokens : List Token) → fault_after len before tokens ≡ None
    → all_fit before (kinds tokens) ≡ true
no_fault_fits len before [] e = ends_well (may_end before) _ e
no_fault_fits len before (token ∷ tokens) e =
    let h = goes_well (fits before token.kind) _ (fault_after len (token.kind ∷ before) tokens) e in
    ap (λ b. b && all_fit (token.kind ∷ before) (kinds tokens)) h.0 ∙ no_fault_fits len (token.kind ∷ before) tokens h.1

pub some_is : {A : Type 0} (o : Option A) → is_some o ≡ true → (x : A) × (o ≡ Some x)
some_is (Some x) h = (x, refl)
some_is None h = absurd cc

both_none : (first later : Option TextFault) → option_or first later ≡ None → (first ≡ None) × (later ≡ None)
both_none None later e = (refl, e)
both_none (Some fault) later e = absurd cc

-- the valid expression, within the limits, that tokens stand for
pub record Readable (tokens : List Token) : Type 0 where
  pub tree : Tree
  pub built : build at_front (kinds tokens) ≡ Some tree
  pub stand : Stands Sum (kinds tokens) tree
  pub valid : AreValid tree
  pub few : leaf_count tree ≤ 128

pub readable : (text : List ℕ) (tokens : List Token) (len : ℕ) → AreTokens text tokens → fault_of_tokens len tokens ≡ None
    → Readable tokens
readable text tokens len are none =
    let last = both_none (option_or (option_or (too_deep_after 0 tokens) (too_many_after 0 tokens)) (fault_after len [] tokens))
    (too_long tokens) none in
    let middle = both_none (option_or (too_deep_after 0 tokens) (too_many_after 0 tokens)) (fault_after len [] tokens) last.0 in
    let limits = both_none (too_deep_after 0 tokens) (too_many_after 0 tokens) middle.0 in
    let fit = no_fault_fits len [] tokens middle.1 in
    let found = some_is (build at_front (kinds tokens)) (sym (all_fit_builds (kinds tokens)) ∙ fit) in
    let stand = stood_whole (kinds tokens) found.0 found.1 in
    let opened = few_open 0 tokens (omega arith) limits.1 in
    let counted = leaves Sum (kinds tokens) found.0 stand 0 in
    record {
      tree = found.0;
      built = found.1;
      stand = stand;
      valid = valid Sum (kinds tokens) found.0 stand (fine tokens (are_short text tokens are) last.1);
      few = omega (arith, opened, counted);
    }

pub no_fault : (text : List ℕ) (tokens : List Token) → AreTokens text tokens → fault_of_tokens (length text) tokens ≡ None
    → HasNoFault text
no_fault text tokens are none fault (inl is) =
    let bad = fault_in_parts text fault is in
    stuck (is_language text) 0 bad.before fault.place tokens bad.reads bad.inside bad.no_space bad.no_token are
no_fault text tokens are none fault (inr bad) =
    let same = one_list (is_language text) 0 bad.0 tokens (length text) (tokens_in_parts text bad.0 bad.1) are in
    let both : Some fault ≡ None = sym (first_found (length text) bad.0 fault bad.2)
    ∙ ap (fault_of_tokens (length text)) same ∙ none in
    absurd cc

-- what always holds, holds for a value that is there
pub ok_always : {A E : Type 0} (r : Result A E) (P : Type 0) → P → IfOk r (λ x. P)
ok_always (Ok x) P h = h
ok_always (Err e) P h = tt

-- ---- a text has at most one fault

same_fault : (f g : TextFault) → f.kind ≡ g.kind → f.place ≡ g.place → f ≡ g
same_fault f g kind place =
    let make : Fault → ℕ → TextFault = λ k n. record { kind = k; place = n } in
    ap (λ (k : Fault). make k f.place) kind ∙ ap (make g.kind) place

pub one_fault : (text : List ℕ) (f g : TextFault) → IsFault text f → IsFault text g → f ≡ g
one_fault text f g (inl is) (inl also) =
    let a = fault_in_parts text f is in
    let b = fault_in_parts text g also in
    let place = one_stop (is_language text) 0 a.before b.before f.place g.place a.reads b.reads a.no_space b.no_space
    a.no_token b.no_token in
    same_fault f g (one_fault_at text f.place f.kind g.kind a.kind
    (subst (λ (n : ℕ). IsFaultAt text n g.kind) (sym place) b.kind)) place
one_fault text f g (inl is) (inr b) =
    let a = fault_in_parts text f is in
    absurd (stuck (is_language text) 0 a.before f.place b.0 a.reads a.inside a.no_space a.no_token (tokens_in_parts text b.0 b.1))
one_fault text f g (inr a) (inl is) =
    let b = fault_in_parts text g is in
    absurd (stuck (is_language text) 0 b.before g.place a.0 b.reads b.inside b.no_space b.no_token (tokens_in_parts text a.0 a.1))
one_fault text f g (inr a) (inr b) =
    let same = one_list (is_language text) 0 a.0 b.0 (length text) (tokens_in_parts text a.0 a.1)
    (tokens_in_parts text b.0 b.1) in
    let both : Some f ≡ Some g = sym (first_found (length text) a.0 f a.2) ∙ ap (fault_of_tokens (length text)) same
    ∙ first_found (length text) b.0 g b.2 in
    cc

-- ---- what follows for an answer

pub only_domain : {V : Type 0} (tree : V → Tree) (text : List ℕ) (r : Result V TextFault) → IfOk r (λ v. StandsFor text (tree v))
    → IfErr r (λ fault. (fault ≡ no_memory) ⊎ IsFault text fault) → (e : Tree) → StandsFor text e → HasNoFault text
    → MatchResult r (λ v. tree v ≡ e) (λ fault. fault ≡ no_memory)
only_domain tree text (Ok v) h k e stand none = one_meaning text (tree v) e h stand
only_domain tree text (Err fault) h k e stand none = elim k [
  | inl memory ↦ memory
  | inr bad ↦ absurd (none fault bad)
]

pub first_fault : {V : Type 0} (text : List ℕ) (r : Result V TextFault) → IfOk r (λ v. HasNoFault text)
    → IfErr r (λ fault. (fault ≡ no_memory) ⊎ IsFault text fault) → (first : TextFault) → IsFault text first
    → MatchResult r (λ v. ⊥) (λ fault. (fault ≡ no_memory) ⊎ (fault ≡ first))
first_fault text (Ok v) h k first bad = h first bad
first_fault text (Err fault) h k first bad = elim k [
  | inl memory ↦ inl memory
  | inr other ↦ inr (one_fault text fault first other bad)
]

pub first_token_fault : {V : Type 0} (items : V → List Token) (text : List ℕ) (r : Result V TextFault)
    → IfOk r (λ v. AreTokens text (items v)) → IfErr r (λ fault. (fault ≡ no_memory) ⊎ IsTokenFault text fault)
    → (first : TextFault) → IsTokenFault text first → MatchResult r (λ v. ⊥) (λ fault. (fault ≡ no_memory) ⊎ (fault ≡ first))
first_token_fault items text (Ok v) h k first bad = stuck (is_language text) 0 bad.before first.place
    (items v) bad.reads bad.inside bad.no_space bad.no_token h
first_token_fault items text (Err fault) h k first bad = elim k [
  | inl memory ↦ inl memory
  | inr other ↦ inr (one_fault text fault first (inl (fault_of_parts text fault other)) (inl (fault_of_parts text first bad)))
]
