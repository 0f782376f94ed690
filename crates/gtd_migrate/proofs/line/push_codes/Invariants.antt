use Rattle.std.proofs.Common.{◌≡◌, ◌≤◌, ◌+◌, ◌*◌, ◌++◌, take, length}
use Rattle.std.specs.Prelude.{codes, decimal, flat_map}
use Rattle.gtd_migrate.proofs.line.push_codes.Given as goal

-- the codes so far stand behind the first, each after its semicolon
abbrev pub invariant-loop-code : goal.invariant-loop-code
invariant-loop-code l = record {
  text : l.line.items ≡ l.initial.line.items ++ flat_map (λ other. codes ";" ++ decimal other) (take l.code-index l.rest);
  short : length l.line.items ≤ length l.initial.line.items + 4 * l.code-index;
}
