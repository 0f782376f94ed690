-- Years without a last one, `2025/2`, of which there are more than a domain holds.
use Rattle.std.specs.Prelude.{ℕ, ◌+◌, ◌*◌, ◌&&◌, ◌==◌, Bool, true, false, if◌then◌else◌, List, ◌∷◌, Option, Some, None, nat_le}
use Rattle.gtd_hours_tokens.specs.declared.token.Token.{Token}
use Rattle.gtd_hours_tokens.specs.declared.token.TokenKind.{TokenKind}
use Rattle.gtd_hours_tokens.specs.declared.token.TokenKind.TheVariants as kind
use Rattle.gtd_hours_grammar.specs.Faults.{is_slash}

-- Every so many years from this one to 2799, the last of the calendar, are more than 128.
abbrev pub is_many : ℕ → ℕ → ℕ → Bool
is_many first digits step = digits == 4 && nat_le 1800 first && nat_le 1 step && nat_le (first + 128 * step) 2799

-- A year and a step are so.
abbrev pub are_many : TokenKind → TokenKind → Bool
are_many (kind.Number first digits) (kind.Number step count) = is_many first digits step
are_many first step = false

-- where the slash of such years stands, and where they end
abbrev pub Slashed : Type 0
Slashed = ℕ × ℕ

-- A token and those behind it begin with such years: a year, a slash and a step.
abbrev pub every_front : Token → List Token → Option Slashed
every_front token (slash ∷ step ∷ ts) =
    if is_slash slash.kind && are_many token.kind step.kind then Some (slash.from, step.to) else None
every_front token ts = None
