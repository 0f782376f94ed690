-- The one part says what the name does.
use Rattle.std.proofs.Common.{◌∙◌, ap, sym, Some}
use Rattle.gtd_conditional_parts.specs.declared.said.Said.{Said}
use Rattle.gtd_conditional_parts.proofs.reader.read_plain.Goals as goal

pub returns-in-Ok-clause-value : goal.returns-in-Ok-clause-value
returns-in-Ok-clause-value c =
    let read = c.in-Ok.ensures in
    record {
      part = read.0;
      said = sym c.in-Some.ensures.said ∙ ap (λ (x : Said). Some x) (sym read.1);
      always = read.2;
      alone = read.3;
    }
