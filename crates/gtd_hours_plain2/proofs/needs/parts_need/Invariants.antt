-- the parts that were passed need nothing
use Rattle.std.proofs.Common.{◌≡◌, ◌+◌, length}
use Rattle.gtd_hours_plain2.specs.Needs.{parts_need}
use Rattle.gtd_hours_plain2.proofs.needs.parts_need.Given as goal

abbrev pub invariant-loop-first : goal.invariant-loop-first
invariant-loop-first l = record {
  need : parts_need l.days l.times l.part l.rest ≡ parts_need l.days l.times l.before l.parts;
  count : l.part + length l.rest ≡ l.before + length l.parts;
}

abbrev pub decreases-loop-first : goal.decreases-loop-first
decreases-loop-first l = length l.rest
