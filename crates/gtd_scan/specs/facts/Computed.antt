-- What holds of the tokens of a text because they are those that are computed.
use Rattle.std.proofs.Common.{◌≡◌, ℕ, ◌↔◌, ◌∙◌, Option, Some, None, refl, sym, ap}
use Rattle.gtd_scan.specs.Tokens.{AreComputed}

pub token_agrees : {T : Type 0} {from : T → ℕ} {Is : T → Type 0} {token_at : ℕ → Option T} (c : AreComputed from Is token_at)
    (token : T) → Is token ↔ (token_at (from token) ≡ Some token)
token_agrees {T} {from} {Is} {token_at} c token = (c.computed token, λ e. (c.stands (from token) token e).1)

none_by : {T : Type 0} {from : T → ℕ} {Is : T → Type 0} {token_at : ℕ → Option T} (c : AreComputed from Is token_at) (place : ℕ)
    (o : Option T) → token_at place ≡ o → ((token : T) → Is token → from token ≡ place → ⊥) → o ≡ None
none_by c place None e none = refl
none_by c place (Some token) e none = let found = c.stands place token e in absurd (none token found.1 found.0)

pub no_token : {T : Type 0} {from : T → ℕ} {Is : T → Type 0} {token_at : ℕ → Option T} (c : AreComputed from Is token_at)
    (place : ℕ) → token_at place ≡ None → (token : T) → Is token → from token ≡ place → ⊥
no_token {T} {from} {Is} {token_at} c place none token is at =
    let both : Some token ≡ None = sym (c.computed token is) ∙ ap token_at at ∙ none in cc

pub none_agrees : {T : Type 0} {from : T → ℕ} {Is : T → Type 0} {token_at : ℕ → Option T} (c : AreComputed from Is token_at)
    (place : ℕ) → ((token : T) → Is token → from token ≡ place → ⊥) ↔ (token_at place ≡ None)
none_agrees {T} {from} {Is} {token_at} c place = (none_by c place (token_at place) refl, no_token c place)

-- at most one begins at a place
pub one_token : {T : Type 0} {from : T → ℕ} {Is : T → Type 0} {token_at : ℕ → Option T} (c : AreComputed from Is token_at)
    (token other : T) → Is token → Is other → from token ≡ from other → token ≡ other
one_token {T} {from} {Is} {token_at} c token other h k same =
    let both : Some token ≡ Some other = sym (c.computed token h) ∙ ap token_at same ∙ c.computed other k in cc
