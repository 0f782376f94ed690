-- When two elements of those that are compared are alike.
use Rattle.std.specs.Prelude.{ℕ}
use Rattle.gtd_alike.specs.Alike.{AreOpenAlike, asked_at}
use Rattle.gtd_alike.specs.declared.elements.Elements.{Elements}

-- two of them, by how many are before each, are open at the same seconds
abbrev pub AreAlikeAt : Elements → ℕ → ℕ → Type 0
AreAlikeAt e first second = AreOpenAlike e.found.now e.vehicle (asked_at e.asked.now first) (asked_at e.asked.now second)
