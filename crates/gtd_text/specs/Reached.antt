-- What the tokens before a place have built.
use Rattle.std.specs.Prelude.{◌≡◌, ℕ, List, ◌++◌, length}
use Rattle.gtd_text.specs.declared.token.Token.{Token}
use Rattle.gtd_text.specs.declared.token.TokenKind.{TokenKind}
use Rattle.gtd_text.specs.Building.{State, build, at_front}
use Rattle.gtd_text.specs.Lexing.{kinds}
use Rattle.gtd_text.specs.ComputedLexing.{AreTokens, Reads}

-- The tokens of the text are these, and others from the place on.
abbrev pub RestOf : List ℕ → List Token → ℕ → List Token → Type 0
RestOf text before place all = (rest : List Token) × (all ≡ before ++ rest) × Reads text place rest (length text)

-- The tokens before the place lead to this state: what they and others build, the others build from it.
pub record Reached (text : List ℕ) (place : ℕ) (state : State) : Type 0 where
  pub before : List Token
  pub read : (more : List Token) (end : ℕ) → Reads text place more end → Reads text 0 (before ++ more) end
  pub others : (all : List Token) → AreTokens text all → RestOf text before place all
  pub onward : (rest : List TokenKind) → build at_front (kinds before ++ rest) ≡ build state rest
