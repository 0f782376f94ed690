use Rattle.std.proofs.Common.{◌≡◌, ◌++◌, take}
use Rattle.std.specs.Prelude.{codes, decimal, flat_map}
use Rattle.gtd_changes.proofs.line.push_numbers.Given as goal

-- the numbers so far stand behind the first, each after its space
abbrev pub invariant-loop-number : goal.invariant-loop-number
invariant-loop-number l =
    l.line.items ≡ l.initial.line.items ++ flat_map (λ other. codes " " ++ decimal other) (take l.number-index l.rest)
