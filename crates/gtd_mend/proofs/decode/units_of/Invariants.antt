use Rattle.std.proofs.Common.{◌≡◌, ◌++◌, ◌-◌, ◌≤◌, drop, length, List, ℕ}
use Rattle.std.specs.Prelude.{option_map}
use Rattle.gtd_mend.specs.Decoding.{units_of}
use Rattle.gtd_mend.proofs.decode.units_of.Given as goal

-- the units so far, and those of the bytes that are left
abbrev pub invariant-loop-at : goal.invariant-loop-at
invariant-loop-at l =
    (l.at ≤ length l.bytes)
    × (option_map (λ (more : List ℕ). l.units.items ++ more) (units_of l.first (drop l.at l.bytes)) ≡ units_of l.first l.bytes)

abbrev pub decreases-loop-at : goal.decreases-loop-at
decreases-loop-at l = length l.bytes - l.at
