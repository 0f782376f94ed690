-- One piece more of the tokens ahead: for `token_place`.
use Rattle.std.proofs.Common.{◌≡◌, ◌∙◌, refl, sym, ap, subst, ℕ, Bool, true, false, List, [], ◌∷◌}
use Rattle.std.specs.Prelude.{Ok, Err, ◌&&◌, ◌==◌, if◌then◌else◌}
use Rattle.gtd_hours_grammar2.specs.declared.class.Class.{Class}
use Rattle.gtd_hours_tokens2.specs.Tokens.{Lexed, Tokens, nothing, with_space, with_token}
use Rattle.gtd_hours_tokens2.specs.declared.token.TokenFault.{TokenFault}
use Rattle.gtd_hours_tokens2.specs.declared.token.Token.{Token}
use Rattle.gtd_hours_reading2.specs.TokenPlaces.{counts, left_after, nth_offset}

abbrev tokens_in : Lexed → List Token
tokens_in (Ok x) = x.tokens
tokens_in (Err bad) = []

-- what holds of the tokens to come
abbrev pub IsOffsetIn : Lexed → ℕ → Class → ℕ → ℕ → Type 0
IsOffsetIn later from c k offset = (x : Tokens) → later ≡ Ok x → offset ≡ nth_offset from c k x.tokens

pub space_in : (later : Lexed) (place from : ℕ) (c : Class) (k offset : ℕ) → IsOffsetIn later from c k offset
    → IsOffsetIn (with_space place later) from c k offset
space_in (Ok y) place from c k offset h x e = h y refl ∙ ap (λ (l : Lexed). nth_offset from c k (tokens_in l)) e
space_in (Err bad) place from c k offset h x e = absurd cc

pub token_in : (later : Lexed) (t : Token) (from : ℕ) (c : Class) (k offset : ℕ) → (counts from c t && (k == 0)) ≡ false
    → IsOffsetIn later from c (left_after (counts from c t) k) offset → IsOffsetIn (with_token t later) from c k offset
token_in (Ok y) t from c k offset misses h x e =
    let s : offset ≡ nth_offset from c k (t ∷ y.tokens) = rw misses (h y refl) in
    s ∙ ap (λ (l : Lexed). nth_offset from c k (tokens_in l)) e
token_in (Err bad) t from c k offset misses h x e = absurd cc

pub token_here : (later : Lexed) (t : Token) (from : ℕ) (c : Class) (k : ℕ) → (counts from c t && (k == 0)) ≡ true
    → IsOffsetIn (with_token t later) from c k t.from
token_here (Ok y) t from c k hits x e =
    let s : t.from ≡ nth_offset from c k (t ∷ y.tokens) = rw hits refl in
    s ∙ ap (λ (l : Lexed). nth_offset from c k (tokens_in l)) e
token_here (Err bad) t from c k hits x e = absurd cc

-- the same, where what is ahead is known by itself
pub fault_next : (l : Lexed) (bad : TokenFault) (from : ℕ) (c : Class) (k offset : ℕ) → l ≡ Err bad → IsOffsetIn l from c k offset
fault_next l bad from c k offset is x e = absurd (let h : ◌≡◌ {A = Lexed} (Err bad) (Ok x) = sym is ∙ e in cc)

pub end_next : (l : Lexed) (from : ℕ) (c : Class) (k : ℕ) → l ≡ Ok nothing → IsOffsetIn l from c k from
end_next l from c k is x e = ap (λ (l : Lexed). nth_offset from c k (tokens_in l)) (sym is ∙ e)

pub space_next : (l later : Lexed) (place from : ℕ) (c : Class) (k offset : ℕ) → l ≡ with_space place later
    → IsOffsetIn later from c k offset → IsOffsetIn l from c k offset
space_next l later place from c k offset is h x e = space_in later place from c k offset h x (sym is ∙ e)

pub token_next : (l later : Lexed) (t : Token) (from : ℕ) (c : Class) (k next offset : ℕ) → l ≡ with_token t later
    → (counts from c t && (k == 0)) ≡ false → next ≡ left_after (counts from c t) k
    → IsOffsetIn later from c next offset → IsOffsetIn l from c k offset
token_next l later t from c k next offset is misses same h x e =
    token_in later t from c k offset misses (subst (λ (n : ℕ). IsOffsetIn later from c n offset) same h) x (sym is ∙ e)

pub token_found : (l later : Lexed) (t : Token) (from : ℕ) (c : Class) (k : ℕ) → l ≡ with_token t later
    → (counts from c t && (k == 0)) ≡ true → IsOffsetIn l from c k t.from
token_found l later t from c k is hits x e = token_here later t from c k hits x (sym is ∙ e)
