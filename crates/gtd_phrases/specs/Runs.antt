-- Weekdays that are neighbours.
use Rattle.std.specs.Prelude.{ℕ, ◌==◌, List, [], ◌∷◌, if◌then◌else◌}

-- Three or more neighbouring weekdays: their bits, the first of them, and the last. The week goes round, from Saturday to
-- Sunday.
abbrev pub runs : List (ℕ × ℕ × ℕ)
runs =
    (7, 1, 3) ∷ (14, 2, 4) ∷ (15, 1, 4) ∷ (28, 3, 5) ∷ (30, 2, 5) ∷ (31, 1, 5) ∷ (56, 4, 6) ∷ (60, 3, 6) ∷ (62, 2, 6)
    ∷ (63, 1, 6) ∷ (67, 7, 2) ∷ (71, 7, 3) ∷ (79, 7, 4) ∷ (95, 7, 5) ∷ (97, 6, 1) ∷ (99, 6, 2) ∷ (103, 6, 3)
    ∷ (111, 6, 4) ∷ (112, 5, 7) ∷ (113, 5, 1) ∷ (115, 5, 2) ∷ (119, 5, 3) ∷ (120, 4, 7) ∷ (121, 4, 1) ∷ (123, 4, 2)
    ∷ (124, 3, 7) ∷ (125, 3, 1) ∷ (126, 2, 7) ∷ (127, 2, 1) ∷ []

-- the run with these bits, or zeros
abbrev pub run_in : List (ℕ × ℕ × ℕ) → ℕ → ℕ × ℕ
run_in [] weekdays = (0, 0)
run_in (run ∷ others) weekdays = if weekdays == run.0 then (run.1, run.2) else run_in others weekdays

unfoldable pub run_of : ℕ → ℕ × ℕ
run_of weekdays = run_in runs weekdays
