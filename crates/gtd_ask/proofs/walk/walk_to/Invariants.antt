-- The walk is at the second, on the same spans.
use Rattle.std.proofs.Common.{◌≡◌}
use Rattle.gtd_ask.specs.Walks.{IsWalk}
use Rattle.gtd_ask.proofs.walk.walk_to.Given as goal

abbrev pub invariant-loop : goal.invariant-loop
invariant-loop l = record {
  walk : IsWalk l._found l.walk;
  at : l.walk.at ≡ l.second;
}
