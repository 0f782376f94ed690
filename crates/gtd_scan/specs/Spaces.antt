-- Spaces in a text. Texts are lists of bytes, by their numbers in ASCII.
use Rattle.std.specs.Prelude.{ℕ, ◌≡◌, ◌≤◌, ◌<◌, List, slice_index}

-- Each byte from one place up to but not including another is a space.
abbrev pub AreSpaces : List ℕ → ℕ → ℕ → Type 0
AreSpaces text from to = (from ≤ to) × ((place : ℕ) → from ≤ place → place < to → slice_index text place ≡ 32)
