-- A code of expressions, by which a proof tells values that hold them apart. There is nothing to believe.
use Rattle.std.specs.Prelude.{◌≡◌, ◌++◌, ◌⊎◌, List, [], ◌∷◌}
use Rattle.std.specs.Coded.{Coded, code_by, coded_list, coded×, coded⊎}
use Rattle.std.proofs.Common.{inl, inr, refl, ap, ◌∙◌}
use Rattle.gtd_core.specs.Trees.{Tree, Single, Joined}
use Rattle.gtd_core.specs.declared.domain.Op.{Op}
use Rattle.gtd_core.specs.declared.start.StartParts.{StartParts}
use Rattle.gtd_core.specs.declared.duration.DurationParts.{DurationParts}
use Rattle.gtd_core.specs.contracts.domain.Op as op
use Rattle.gtd_core.specs.contracts.start.StartParts as start
use Rattle.gtd_core.specs.contracts.duration.DurationParts as duration
use Rattle.gtd_core.specs.Ranges.{no_parts}

-- a basic domain, or an operator over the two trees before it
abbrev Part : Type 0
Part = (StartParts × DurationParts) ⊎ Op

-- the parts of an expression, each operator after its sides
abbrev parts : Tree → List Part
parts (Single s d) = inl (s, d) ∷ []
parts (Joined o left right) = parts left ++ (parts right ++ (inr o ∷ []))

-- the trees on the stack after one more part
abbrev join : Op → List Tree → List Tree
join o [] = []
join o (right ∷ []) = []
join o (right ∷ left ∷ trees) = Joined o left right ∷ trees

abbrev step : Part → List Tree → List Tree
step (inl basic) trees = Single basic.0 basic.1 ∷ trees
step (inr o) trees = join o trees

abbrev build : List Part → List Tree → List Tree
build [] trees = trees
build (part ∷ more) trees = build more (step part trees)

-- the tree on top of the stack
abbrev last : List Tree → Tree
last [] = Single no_parts (record { years = 0; months = 0; weeks = 0; days = 0; hours = 0; minutes = 0; seconds = 0 })
last (tree ∷ trees) = tree

pub build-append : (front back : List Part) (trees : List Tree)
    → build (front ++ back) trees ≡ build back (build front trees)
build-append [] back trees = refl
build-append (part ∷ front) back trees = build-append front back (step part trees)

pub build-parts : (tree : Tree) (trees : List Tree) → build (parts tree) trees ≡ tree ∷ trees
build-parts (Single s d) trees = refl
build-parts (Joined o left right) trees =
    build-append (parts left) (parts right ++ (inr o ∷ [])) trees
    ∙ ap (build (parts right ++ (inr o ∷ []))) (build-parts left trees)
    ∙ build-append (parts right) (inr o ∷ []) (left ∷ trees)
    ∙ ap (build (inr o ∷ [])) (build-parts right (left ∷ trees))

abbrev pub tree_code : Coded Tree
tree_code =
    code_by (List Part) (coded_list (coded⊎ (coded× start.the_row.coded duration.the_row.coded) op.the_row.coded))
    parts (λ ps. last (build ps [])) (λ tree. ap last (build-parts tree []))
