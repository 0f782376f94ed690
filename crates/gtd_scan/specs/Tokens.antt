-- A text as tokens of any language. What a language says of its tokens is given: at which byte one begins (`from`), at which it
-- ends (`to`), and whether it is in the text (`Is`).
use Rattle.std.specs.Prelude.{ℕ, ◌≡◌, ◌<◌, List, [], ◌∷◌, slice_index, Option, Some}
use Rattle.gtd_scan.specs.Spaces.{AreSpaces}

-- From one place to another the text is these tokens, with spaces or none before, between and after them.
abbrev pub ReadsTokens : {T : Type 0} (from to : T → ℕ) (Is : T → Type 0) → List ℕ → ℕ → List T → ℕ → Type 0
ReadsTokens from to Is text place [] end = AreSpaces text place end
ReadsTokens from to Is text place (token ∷ tokens) end =
    AreSpaces text place (from token) × Is token × ReadsTokens from to Is text (to token) tokens end

-- What makes them a language: a token has a byte at least, none begins with a space, and at most one begins at a place.
pub record IsLanguage {T : Type 0} (from to : T → ℕ) (Is : T → Type 0) (text : List ℕ) : Type 0 where
  pub goes_on : (token : T) → Is token → from token < to token
  pub no_space : (token : T) → Is token → slice_index text (from token) ≡ 32 → ⊥
  pub one_token : (token other : T) → Is token → Is other → from token ≡ from other → token ≡ other

-- The tokens in a text are those that are computed from the bytes at their places.
pub record AreComputed {T : Type 0} (from : T → ℕ) (Is : T → Type 0) (token_at : ℕ → Option T) : Type 0 where
  pub computed : (token : T) → Is token → token_at (from token) ≡ Some token
  pub stands : (place : ℕ) (token : T) → token_at place ≡ Some token → (from token ≡ place) × Is token
