use Rattle.std.proofs.Common.{◌≡◌, ◌++◌, [], ◌∷◌, take}
use Rattle.std.specs.Prelude.{decimal, flat_map}
use Rattle.json.specs.Token.{number}
use Rattle.gtd_now.proofs.object.write_numbers.Given as goal

-- the numbers so far are written
abbrev pub invariant-loop-row : goal.invariant-loop-row
invariant-loop-row l = record {
  before : l.out.before ≡ l.initial.out.before;
  tokens : l.out.tokens ≡ l.initial.out.tokens ++ flat_map (λ row. number (decimal row) ∷ []) (take l.row-index l.rows);
}
