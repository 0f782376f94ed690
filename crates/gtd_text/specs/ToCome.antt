-- What the tokens of a text build, and what is still to come of them.
use Rattle.std.specs.Prelude.{◌≡◌, ℕ, List, [], ◌∷◌, length, Option, Some, None}
use Rattle.gtd_text.specs.declared.token.Token.{Token}
use Rattle.gtd_core.specs.Trees.{Tree}
use Rattle.gtd_scan.specs.Spaces.{AreSpaces}
use Rattle.gtd_text.specs.Building.{AreBuildable, build, at_front}
use Rattle.gtd_text.specs.Lexing.{kinds}
use Rattle.gtd_text.specs.ComputedLexing.{AreTokens, IsToken, Reads}

-- The text is made of tokens, and they build an expression in its ranges.
pub record IsBuildable (text : List ℕ) : Type 0 where
  pub tokens : List Token
  pub read : AreTokens text tokens
  pub builds : AreBuildable (kinds tokens)

-- The text is made of tokens, and they build the expression.
pub record Builds (text : List ℕ) (e : Tree) : Type 0 where
  pub tokens : List Token
  pub read : AreTokens text tokens
  pub built : build at_front (kinds tokens) ≡ Some e

-- The first of the tokens that a text ends with, and the others from its end on.
abbrev pub IsNext : List ℕ → List Token → Option Token → Type 0
IsNext text tokens None = tokens ≡ []
IsNext text tokens (Some token) =
    (others : List Token) × (tokens ≡ token ∷ others) × Reads text token.to others (length text)

-- If the text is spaces and tokens from this place on, then this is the first of them.
abbrev pub IsNextFrom : List ℕ → ℕ → Option Token → Type 0
IsNextFrom text place next = (tokens : List Token) → Reads text place tokens (length text) → IsNext text tokens next

-- The token comes next after the place, with spaces or none between.
abbrev pub IsThere : List ℕ → ℕ → Token → Type 0
IsThere text place token = AreSpaces text place token.from × IsToken text token
