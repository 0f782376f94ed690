-- The parts are those of the text's tokens.
use Rattle.std.proofs.Common.{◌∙◌, List, subst}
use Rattle.gtd_hours_moments.specs.declared.parts.Part.{Part}
use Rattle.gtd_hours_moments.specs.Reading.{HasParts}
use Rattle.gtd_hours_moments.proofs.text.moment_text.Goals as goal

pub returns-clause-text : goal.returns-clause-text
returns-clause-text c =
    let parts = c.in_ok-parts.ensures.parts in
    record {
      tokens = parts.tokens;
      are = parts.are;
      has = subst (λ (l : List Part). HasParts c.args.text.now l c.in_ok-read.read) (c.as_slice.ensures.value ∙ parts.is)
          c.in_ok-read.ensures;
    }
