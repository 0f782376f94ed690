-- The words of a command line, and what they ask for.
use Rattle.std.specs.Prelude.{ℕ, ℤ, List, map}
use Rattle.std.specs.Borrow.{Bor}
use Rattle.gtd_core.specs.Trees.{Tree}
use Rattle.gtd_core.specs.declared.horizon.Horizon.{Horizon}
use Rattle.gtd_core.specs.declared.second.Sec.{Sec}
use Rattle.gtd_roads.specs.Direction.{Direction}

-- A word, by its bytes.
abbrev pub Text : Type 0
Text = List ℕ

-- The words, without where they lie in memory.
abbrev pub texts : List (Bor Text) → List Text
texts words = map (λ word. word.now) words

-- A command with each of its words read. A domain is the tree of its expression, and the day `to` is given by its
-- number: the horizon goes from the moment's day up to but not including it. A file is named by its path.
pub data Asked : Type 0 where
  Check : (domain : Tree) → Asked
  Canon : (domain : Tree) → Asked
  At : (domain : Tree) → (moment : Sec) → Asked
  Next : (domain : Tree) → (moment : Sec) → (to : ℤ) → Asked
  Ever : (domain : Tree) → (moment : Sec) → Asked
  Schedule : (file : Text) → (horizon : Horizon) → (vehicle : ℕ) → Asked
  Year : (file : Text) → (element : ℕ) → (direction : Direction) → (vehicle year : ℕ) → Asked
  Migrate : (file : Text) → Asked
