-- The selector that was added has the weekday and the number that were given, and comes last.
use Rattle.gtd_hours.specs.declared.hours.Selector.TheVariants as selector
use Rattle.gtd_hours_text.proofs.places.with_place.Goals as goal

pub returns-in_ok-selectors-in-Some : goal.returns-in_ok-selectors-in-Some
returns-in_ok-selectors-in-Some c = record {
  x = selector.Nth c.in-Some.place;
  all = c.in_ok-selectors-in-Some.ensures;
  is = c.in-Some.ensures.kept;
}
