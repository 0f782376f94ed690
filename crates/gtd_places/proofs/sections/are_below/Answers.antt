-- Places are sorted by element: if the last of them is below the given one, all are.
use Rattle.std.proofs.Common.{◌-◌, arith}
use Rattle.gtd_places.proofs.SectionFacts.{all_below}
use Rattle.gtd_places.proofs.sections.are_below.Goals as goal

pub returns-then-last-element : goal.returns-then-last-element
returns-then-last-element c = record {
  below = λ _ k d ge lt. all_below c.args.places.now c.requires.sorted c.args.element (c.args.from - 1) _ (omega arith)
      c.if-last-element.true k d ge (omega arith);
}
