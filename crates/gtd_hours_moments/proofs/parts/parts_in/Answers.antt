-- The parts are those of the tokens.
use Rattle.std.proofs.Common.{◌∙◌, ap}
use Rattle.gtd_hours_moments.specs.Parts.{parts_of}
use Rattle.gtd_hours_moments.proofs.parts.parts_in.Goals as goal

pub returns-clause-parts : goal.returns-clause-parts
returns-clause-parts c = record {
  tokens = c.in_ok-tokens.tokens.items;
  are = c.in_ok-tokens.ensures.tokens;
  is = c.in_ok-parts.ensures ∙ ap parts_of c.as_slice.ensures.value;
}
