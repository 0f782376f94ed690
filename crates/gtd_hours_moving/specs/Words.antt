-- Words of a text that plain hours do not have.
use Rattle.std.specs.Prelude.{ℕ, ◌-◌, ◌&&◌, Bool, true, false, List, [], ◌∷◌, bytes_eq, codes, drop, take}
use Rattle.gtd_hours_tokens.specs.declared.token.Token.{Token}
use Rattle.gtd_hours_tokens.specs.declared.token.TokenKind.{TokenKind}
use Rattle.gtd_hours_tokens.specs.declared.token.TokenKind.TheVariants as kind

-- From one place of a text up to but not including another.
abbrev pub stretch : List ℕ → ℕ → ℕ → List ℕ
stretch text from to = take (to - from) (drop from text)

abbrev pub is_unread : TokenKind → Bool
is_unread kind.Unsupported = true
is_unread k = false

-- The token is this word, one of those that plain hours do not have.
abbrev pub is_word : List ℕ → Token → List ℕ → Bool
is_word text token word = is_unread token.kind && bytes_eq (stretch text token.from token.to) word

abbrev pub is_easter : List ℕ → Token → Bool
is_easter text token = is_word text token (codes "easter")

-- The first of the tokens is `easter`.
abbrev pub begins_easter : List ℕ → List Token → Bool
begins_easter text [] = false
begins_easter text (t ∷ ts) = is_easter text t
