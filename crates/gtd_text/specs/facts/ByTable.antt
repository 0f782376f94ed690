-- What holds for each row of a table of fields holds for what a letter finds in it.
use Rattle.std.proofs.Common.{◌≡◌, ℕ, Bool, true, false, cond, List, [], ◌∷◌}
use Rattle.std.specs.Prelude.{◌==◌}
use Rattle.gtd_core.specs.FieldTable.{FieldRow, at_letter}

-- it holds of each row
abbrev pub AreAll : {Parts : Type 0} → (FieldRow Parts → Type 0) → List (FieldRow Parts) → Type 0
AreAll Holds [] = Unit {0}
AreAll Holds (row ∷ rows) = Holds row × AreAll Holds rows

-- it holds of the first row, and of the others
pub also : {A B : Type 0} → A → B → A × B
also first others = (first, others)

by_test : {Parts : Type 0} (Good : Parts → Type 0) (b x y : Bool) (p q : Parts) → (x ≡ true → Good p) → (y ≡ true → Good q)
    → cond b x y ≡ true → Good (cond b p q)
by_test Good true x y p q h k e = h e
by_test Good false x y p q h k e = k e

-- a number that is taken gives what the row of its letter gives
pub taken : {Parts : Type 0} (Good : Parts → Type 0) (rows : List (FieldRow Parts)) (parts : Parts) (letter value digits : ℕ)
    → AreAll (λ row. row.takes value digits ≡ true → Good (row.gives parts value)) rows
    → at_letter rows (λ row. row.takes value digits) false letter ≡ true
    → Good (at_letter rows (λ row. row.gives parts value) parts letter)
taken Good [] parts letter value digits all e = absurd cc
taken Good (row ∷ rows) parts letter value digits all e =
    by_test Good (letter == row.letter) (row.takes value digits) (at_letter rows (λ row. row.takes value digits) false letter)
    (row.gives parts value) (at_letter rows (λ row. row.gives parts value) parts letter) all.0
    (taken Good rows parts letter value digits all.1) e

either : {Parts : Type 0} (Good : Parts → Type 0) (b : Bool) (p q : Parts) → Good p → Good q → Good (cond b p q)
either Good true p q h k = h
either Good false p q h k = k

-- any number gives what the row of its letter gives, or leaves the parts as they are
pub given : {Parts : Type 0} (Good : Parts → Type 0) (rows : List (FieldRow Parts)) (parts : Parts) (letter value : ℕ)
    → AreAll (λ row. Good (row.gives parts value)) rows → Good parts
    → Good (at_letter rows (λ row. row.gives parts value) parts letter)
given Good [] parts letter value all h = h
given Good (row ∷ rows) parts letter value all h =
    either Good (letter == row.letter) (row.gives parts value) (at_letter rows (λ row. row.gives parts value) parts letter)
    all.0 (given Good rows parts letter value all.1 h)
