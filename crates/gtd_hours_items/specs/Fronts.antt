-- Where a range of days that moves, or Easter of a year, can begin among the tokens of a text. A single year directly before its
-- month or `easter` belongs to it; a number in a list or a range of years or of weeks, or in brackets, does not. What ends a
-- range begins none.
use Rattle.std.specs.Prelude.{◌≡◌, ℕ, ◌==◌, Bool, true, false, if◌then◌else◌, List, [], ◌∷◌, Option, Some, None}
use Rattle.gtd_hours_moving.specs.Moving.{IsMovingFront}
use Rattle.gtd_hours_moving.specs.declared.front.MovingFront.{MovingFront}
use Rattle.gtd_hours_tokens.specs.declared.token.Token.{Token}
use Rattle.gtd_hours_tokens.specs.declared.token.TokenKind.{TokenKind}
use Rattle.gtd_hours_tokens.specs.declared.token.TokenKind.TheVariants as kind
use Rattle.gtd_hours_items.specs.declared.fronts.Before.{Before}
use Rattle.gtd_hours_items.specs.declared.fronts.Before.TheVariants as before

abbrev pub before_dash : Before → Before
before_dash before.Year = before.Years
before_dash before.Years = before.Years
before_dash before.Places = before.Places
before_dash b = before.Dash

abbrev pub before_number : Before → ℕ → Before
before_number before.Dash digits = before.Dash
before_number before.Month digits = before.Other
before_number before.Places digits = before.Places
before_number before.Other digits = if digits == 4 then before.Year else before.Other
before_number b digits = before.Year

-- behind a comma, a slash or a plus
abbrev pub before_sign : Before → Before
before_sign before.Year = before.Years
before_sign before.Years = before.Years
before_sign before.Places = before.Places
before_sign b = before.Other

abbrev pub before_token : Before → TokenKind → Before
before_token b kind.Dash = before_dash b
before_token b (kind.Number v d) = before_number b d
before_token b kind.Comma = before_sign b
before_token b kind.Slash = before_sign b
before_token b kind.Plus = before_sign b
before_token b kind.Week = before.Years
before_token b (kind.Month m) = before.Month
before_token b kind.OpenBracket = before.Places
before_token b k = before.Other

-- behind an item that begins with such a token, and with a range that moves or not
abbrev pub before_after : Before → TokenKind → Option MovingFront → Before
before_after b k None = before_token b k
before_after b k (Some front) = before.Other

abbrev pub may_begin : Before → TokenKind → Bool
may_begin before.Dash k = false
may_begin before.Years (kind.Month m) = true
may_begin before.Years kind.Unsupported = true
may_begin before.Years k = false
may_begin before.Month (kind.Number v d) = false
may_begin before.Places (kind.Number v d) = false
may_begin b k = true

abbrev pub IsFrontIf : Bool → List ℕ → List Token → Option MovingFront → Type 0
IsFrontIf true text tokens front = IsMovingFront text tokens front
IsFrontIf false text tokens front = front ≡ None

-- The range that moves with which tokens of a text begin, behind this.
abbrev pub IsFrontAt : List ℕ → Before → List Token → Option MovingFront → Type 0
IsFrontAt text b [] front = front ≡ None
IsFrontAt text b (t ∷ ts) front = IsFrontIf (may_begin b t.kind) text (t ∷ ts) front
