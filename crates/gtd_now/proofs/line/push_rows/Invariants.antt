use Rattle.std.proofs.Common.{◌≡◌, ◌++◌, take}
use Rattle.std.specs.Prelude.{codes, decimal, flat_map}
use Rattle.gtd_now.proofs.line.push_rows.Given as goal

-- the numbers so far stand behind the first, each after its semicolon
abbrev pub invariant-loop-row : goal.invariant-loop-row
invariant-loop-row l = record {
  text : l.line.items ≡ l.initial.line.items ++ flat_map (λ other. codes ";" ++ decimal other) (take l.row-index l.rest);
}
