-- Places whose elements are below the given one are passed until one is not; as they are sorted, none after it is.
use Rattle.std.proofs.Common.{arith}
use Rattle.gtd_places.proofs.SectionFacts.{all_above, all_below}
use Rattle.gtd_places.specs.facts.PlaceFacts.{nowhere}
use Rattle.gtd_places.proofs.sections.places_below_near.Goals as goal

pub loop-at-init : goal.loop-at-init
loop-at-init c = c.are_below.ensures.below c.if-not-are_below.false

pub loop-at-preserved : goal.loop-at-preserved
loop-at-preserved c =
    all_below c.args.places.now c.requires c.args.element c.loop-at.at nowhere (omega arith) (omega arith)

pub returns-then-element-place : goal.returns-then-element-place
returns-then-element-place c = record {
  within = omega arith;
  below = c.loop-at.invariant;
  rest = all_above c.args.places.now c.requires c.args.element c.loop-at.at _ (omega arith) c.if-element-place.true;
}
