-- What is told of the domain of a row.
use Rattle.std.specs.Prelude.{◌≡◌, ◌⊎◌, ◌+◌, ◌++◌, ℕ, Bool, true, false, List, [], ◌∷◌}
use Rattle.std.specs.List.{Contains}
use Rattle.gtd_core.specs.Ranges.{clock_seconds}
use Rattle.gtd_core.specs.Trees.{Tree, Single, Joined, leaf_count}
use Rattle.gtd_mistakes.specs.Rules.{HoldsOf}
use Rattle.gtd_mistakes.specs.Shapes.{begin_of}
use Rattle.gtd_mistakes.specs.declared.rule.Rule.{Rule}
use Rattle.gtd_mistakes.specs.declared.rule.TheConstants.{RULES}
use Rattle.gtd_mistakes.specs.declared.told.Part.{Part}
use Rattle.gtd_mistakes.specs.declared.told.Told.{Told}

-- the first basic domain of a part that begins after so many basic domains of its domain
abbrev pub first_part : ℕ → Tree → Part
first_part before (Single start duration) =
    record { before = before; begin = begin_of start; clock = clock_seconds duration }
first_part before (Joined op left right) = first_part before left

-- the rule, at that part of the domain of a row
abbrev pub told_at : ℕ → ℕ → Tree → Rule → Told
told_at row before tree rule = record { row = row; rule = rule; part = first_part before tree }

-- the rule is not turned off, and holds of the part
abbrev pub IsTold : List Rule → Bool → Tree → Rule → Type 0
IsTold off whole tree rule = (Contains off rule → ⊥) × HoldsOf rule whole tree

-- Of these rules, exactly those are told at a part that hold of it, in their order.
abbrev pub AreToldAt : ℕ → List Rule → Bool → ℕ → Tree → List Rule → List Told → Type 0
AreToldAt row off whole before tree [] told = told ≡ []
AreToldAt row off whole before tree (rule ∷ rules) told =
    (IsTold off whole tree rule
    × (rest : List Told) × AreToldAt row off whole before tree rules rest × (told ≡ told_at row before tree rule ∷ rest))
    ⊎ ((IsTold off whole tree rule → ⊥) × AreToldAt row off whole before tree rules told)

-- What is told of a part of a domain: first of itself, and then of its parts, from left to right.
abbrev pub AreToldOf : ℕ → List Rule → Bool → ℕ → Tree → List Told → Type 0
AreToldOf row off whole before (Single start duration) told = AreToldAt row off whole before (Single start duration) RULES told
AreToldOf row off whole before (Joined op left right) told =
    (here : List Told) × (first : List Told) × (second : List Told)
    × AreToldAt row off whole before (Joined op left right) RULES here
    × AreToldOf row off false before left first × AreToldOf row off false (before + leaf_count left) right second
    × (told ≡ here ++ first ++ second)

-- what is told of the domain of a row
abbrev pub AreToldOfDomain : ℕ → List Rule → Tree → List Told → Type 0
AreToldOfDomain row off tree told = AreToldOf row off true 0 tree told
