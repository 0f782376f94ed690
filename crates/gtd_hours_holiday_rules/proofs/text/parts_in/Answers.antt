-- The parts are those of the items.
use Rattle.std.proofs.Common.{◌∙◌, ap}
use Rattle.gtd_hours_holiday_rules.specs.Parts.{parts_of}
use Rattle.gtd_hours_holiday_rules.proofs.text.parts_in.Goals as goal

pub returns-clause-parts : goal.returns-clause-parts
returns-clause-parts c = record {
  items = c.in_ok-items.items.items;
  are = c.in_ok-items.ensures.items;
  is = c.in_ok-parts.ensures ∙ ap parts_of c.as_slice.ensures.value;
}
