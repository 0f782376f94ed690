-- the rules that were passed need nothing
use Rattle.std.proofs.Common.{◌≡◌, length}
use Rattle.gtd_hours_plain2.specs.Needs.{first_need, need_from, up_to_fallback}
use Rattle.gtd_hours_plain2.proofs.needs.first_need.Given as goal

abbrev pub invariant-loop-rule : goal.invariant-loop-rule
invariant-loop-rule l = record {
  need : need_from l.days l.times l.passed.rules l.passed.parts l.rest ≡ first_need l.days l.times l.rules;
  left : l.left ≡ up_to_fallback l.rest;
}

abbrev pub decreases-loop-rule : goal.decreases-loop-rule
decreases-loop-rule l = length l.rest
