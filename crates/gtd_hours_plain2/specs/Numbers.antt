-- An option's number.
use Rattle.std.specs.Prelude.{ℕ, Option, Some, None}

-- the number that is given, or else another one
abbrev pub given_or : ℕ → Option ℕ → ℕ
given_or other None = other
given_or other (Some n) = n
