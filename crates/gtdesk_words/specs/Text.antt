-- Texts.
use Rattle.std.specs.Prelude.{ℕ, List}

-- A text, by its bytes.
abbrev pub Text : Type 0
Text = List ℕ
