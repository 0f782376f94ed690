-- In a language of tokens, a text is one list of tokens, or has one first place where none begins.
use Rattle.std.proofs.Common.{◌≡◌, ◌≢◌, ℕ, ◌<◌, ◌≤◌, List, [], ◌∷◌, ◌++◌, length, refl, sym, ap, subst, ◌∙◌, arith, inl, inr}
use Rattle.std.proofs.Common.{append_assoc}
use Rattle.std.specs.Prelude.{slice_index}
use Rattle.std.proofs.lemmas.Bool.{cases_order}
use Rattle.gtd_scan.specs.Spaces.{AreSpaces}
use Rattle.gtd_scan.specs.Tokens.{IsLanguage, ReadsTokens}

pub ends_after : {T : Type 0} {from to : T → ℕ} {Is : T → Type 0} {text : List ℕ} (l : IsLanguage from to Is text) (place : ℕ)
    (tokens : List T) (end : ℕ) → ReadsTokens from to Is text place tokens end → place ≤ end
ends_after l place [] end h = h.0
ends_after {T} {from} {to} {Is} {text} l place (token ∷ tokens) end h =
    omega (arith, h.0.0, l.goes_on token h.1, ends_after l (to token) tokens end h.2)

no_more : {T : Type 0} {from to : T → ℕ} {Is : T → Type 0} {text : List ℕ} (l : IsLanguage from to Is text) (place : ℕ)
    (token : T) (tokens : List T) (end : ℕ) → AreSpaces text place end
    → ReadsTokens from to Is text place (token ∷ tokens) end → ⊥
no_more {T} {from} {to} {Is} {text} l place token tokens end spaces h =
    let before : from token < end = omega (arith, l.goes_on token h.1, ends_after l (to token) tokens end h.2) in
    l.no_space token h.1 (spaces.1 (from token) h.0.0 before)

pub one_list : {T : Type 0} {from to : T → ℕ} {Is : T → Type 0} {text : List ℕ} (l : IsLanguage from to Is text) (place : ℕ)
    (tokens others : List T) (end : ℕ) → ReadsTokens from to Is text place tokens end
    → ReadsTokens from to Is text place others end → tokens ≡ others
one_list l place [] [] end h k = refl
one_list l place [] (other ∷ others) end h k = absurd (no_more l place other others end h k)
one_list l place (token ∷ tokens) [] end h k = absurd (no_more l place token tokens end k h)
one_list {T} {from} {to} {Is} {text} l place (token ∷ tokens) (other ∷ others) end h k =
    elim (cases_order (from token) (from other)) [
      | inl same ↦
          let one = l.one_token token other h.1 k.1 same in
          ap (λ t. t ∷ tokens) one ∙ ap (λ l. other ∷ l) (one_list l (to token) tokens others end h.2
          (subst (λ (t : T). ReadsTokens from to Is text (to t) others end) (sym one) k.2))
      | inr (inl less) ↦ absurd (l.no_space token h.1 (k.0.1 (from token) h.0.0 less))
      | inr (inr more) ↦ absurd (l.no_space other k.1 (h.0.1 (from other) k.0.0 more))
    ]

-- if no token begins at a place, no list goes on to the end
pub stuck : {T : Type 0} {from to : T → ℕ} {Is : T → Type 0} {text : List ℕ} (l : IsLanguage from to Is text) (start : ℕ)
    (before : List T) (place : ℕ) (tokens : List T) → ReadsTokens from to Is text start before place → place < length text
    → slice_index text place ≢ 32 → ((token : T) → Is token → from token ≡ place → ⊥)
    → ReadsTokens from to Is text start tokens (length text) → ⊥
stuck l start [] place [] h lt no_space none k = no_space (k.1 place h.0 lt)
stuck {T} {from} {to} {Is} {text} l start [] place (token ∷ tokens) h lt no_space none k = elim (cases_order (from token) place) [
  | inl same ↦ absurd (none token k.1 same)
  | inr (inl less) ↦ absurd (l.no_space token k.1 (h.1 (from token) k.0.0 less))
  | inr (inr more) ↦ no_space (k.0.1 place h.0 more)
]
stuck l start (token ∷ before) place [] h lt no_space none k =
    no_more l start token before place (ends_after l start (token ∷ before) place h, λ i le below. k.1 i le (omega arith)) h
stuck {T} {from} {to} {Is} {text} l start (token ∷ before) place (other ∷ others) h lt no_space none k =
    elim (cases_order (from token) (from other)) [
      | inl same ↦
          let one = l.one_token token other h.1 k.1 same in
          stuck l (to token) before place others h.2 lt no_space none
          (subst (λ (t : T). ReadsTokens from to Is text (to t) others (length text)) (sym one) k.2)
      | inr (inl less) ↦ absurd (l.no_space token h.1 (k.0.1 (from token) h.0.0 less))
      | inr (inr more) ↦ absurd (l.no_space other k.1 (h.0.1 (from other) k.0.0 more))
    ]

-- spaces up to a place where no token begins, and a token before another place
stops_before : {T : Type 0} {from to : T → ℕ} {Is : T → Type 0} {text : List ℕ} (l : IsLanguage from to Is text)
    (start place : ℕ) (token : T) → AreSpaces text start place → slice_index text place ≢ 32
    → ((token : T) → Is token → from token ≡ place → ⊥) → AreSpaces text start (from token) → Is token → ⊥
stops_before {T} {from} l start place token spaces no_space none before is = elim (cases_order (from token) place) [
  | inl same ↦ absurd (none token is same)
  | inr (inl less) ↦ l.no_space token is (spaces.1 (from token) before.0 less)
  | inr (inr more) ↦ no_space (before.1 place spaces.0 more)
]

-- there is at most one place where no token begins
pub one_stop : {T : Type 0} {from to : T → ℕ} {Is : T → Type 0} {text : List ℕ} (l : IsLanguage from to Is text) (start : ℕ)
    (before others : List T) (place other : ℕ) → ReadsTokens from to Is text start before place
    → ReadsTokens from to Is text start others other → slice_index text place ≢ 32 → slice_index text other ≢ 32
    → ((token : T) → Is token → from token ≡ place → ⊥) → ((token : T) → Is token → from token ≡ other → ⊥) → place ≡ other
one_stop l start [] [] place other h k no_space no_space' none none' = elim (cases_order place other) [
  | inl same ↦ same
  | inr (inl less) ↦ absurd (no_space (k.1 place h.0 less))
  | inr (inr more) ↦ absurd (no_space' (h.1 other k.0 more))
]
one_stop l start [] (token ∷ tokens) place other h k no_space no_space' none none' =
    absurd (stops_before l start place token h no_space none k.0 k.1)
one_stop l start (token ∷ tokens) [] place other h k no_space no_space' none none' =
    absurd (stops_before l start other token k no_space' none' h.0 h.1)
one_stop {T} {from} {to} {Is} {text} l start (token ∷ tokens) (next ∷ others) place other h k no_space no_space' none none' =
    elim (cases_order (from token) (from next)) [
      | inl same ↦
          let one = l.one_token token next h.1 k.1 same in
          one_stop l (to token) tokens others place other h.2
          (subst (λ (t : T). ReadsTokens from to Is text (to t) others other) (sym one) k.2) no_space no_space' none none'
      | inr (inl less) ↦ absurd (l.no_space token h.1 (k.0.1 (from token) h.0.0 less))
      | inr (inr more) ↦ absurd (l.no_space next k.1 (h.0.1 (from next) k.0.0 more))
    ]

-- ---- what was read so far

-- these tokens were read from the front up to this place: whatever more is read from here comes after them
abbrev pub HasReadTokens : {T : Type 0} (from to : T → ℕ) (Is : T → Type 0) → List ℕ → List T → ℕ → Type 0
HasReadTokens {T} from to Is text tokens place =
    (more : List T) (end : ℕ) → ReadsTokens from to Is text place more end → ReadsTokens from to Is text 0 (tokens ++ more) end

pub token_more : {T : Type 0} (from to : T → ℕ) (Is : T → Type 0) (text : List ℕ) (tokens : List T) (place : ℕ) (token : T)
    → HasReadTokens from to Is text tokens place → AreSpaces text place (from token) → Is token
    → HasReadTokens from to Is text (tokens ++ token ∷ []) (to token)
token_more {T} from to Is text tokens place token h spaces is more end r =
    subst (λ (l : List T). ReadsTokens from to Is text 0 l end) (sym (append_assoc tokens (token ∷ []) more))
    (h (token ∷ more) end (spaces, is, r))
