use Rattle.std.proofs.Common.{◌≤◌, ◌-◌, length}
use Rattle.gtd_text.specs.BuilderStates.{opened, stage_of}
use Rattle.gtd_text.specs.Reached.{Reached}
use Rattle.gtd_text.proofs.builder.build_expr.Given as goal

-- the tokens before the place lead to the state
abbrev pub invariant-loop-token : goal.invariant-loop-token
invariant-loop-token l = record {
  inside : l.place ≤ length l.text;
  reached : Reached l.text l.place (stage_of (opened l.outer.items) l.state);
}

abbrev pub decreases-loop-token : goal.decreases-loop-token
decreases-loop-token l = length l.text - l.place
