-- Spans that begin no later than some second begin no later than a later one.
use Rattle.std.proofs.Common.{List, [], ◌∷◌, arith}
use Rattle.std.specs.Prelude.{ℤ, ◌≤ℤ◌}
use Rattle.std.proofs.lemmas.Int.{ints}
use Rattle.gtd_core.specs.Seconds.{Interval}
use Rattle.gtd_spans.specs.Pushing.{NoneBeginsAfter}

pub none-after : (b c : ℤ) (xs : List Interval) → b ≤ℤ c → NoneBeginsAfter b xs → NoneBeginsAfter c xs
none-after b c [] le a = tt
none-after b c (x ∷ xs) le a = (omega (arith, ints, a.0, le), none-after b c xs le a.1)
