-- The parts are those of the text's tokens.
use Rattle.std.proofs.Common.{◌∙◌, List, subst}
use Rattle.gtd_hours_moments.specs.declared.parts.Part.{Part}
use Rattle.gtd_hours_moments.specs.Places.{Holds}
use Rattle.gtd_hours_moments.specs.Plain.{plain_puts}
use Rattle.gtd_hours_moments.proofs.plain.plain_text.Goals as goal

pub returns-clause-plain : goal.returns-clause-plain
returns-clause-plain c =
    let parts = c.in_ok-parts.ensures.parts in
    record {
      tokens = parts.tokens;
      are = parts.are;
      holds = subst (λ (l : List Part). Holds c.in_ok-plain.plain (plain_puts c.args.clocks.now c.args.text.now l))
          (c.as_slice.ensures.value ∙ parts.is) c.in_ok-plain.ensures;
    }
