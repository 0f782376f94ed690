use Rattle.std.proofs.Common.{◌≤◌, ℕ, List}
use Rattle.gtd_faults.specs.Standing.{StandsAt}
use Rattle.gtd_faults.proofs.places.Rows.go_on.Given as goal

-- it stands at the row before the next
abbrev pub invariant-loop-before : goal.invariant-loop-before
invariant-loop-before l =
    (bytes : List ℕ) (number : ℕ) → number ≤ l.fn.row → StandsAt bytes number l.fn.self → StandsAt bytes l.before l.self
