-- The parts are those of the text's items, and the checked text has the length of the text, whichever they are.
use Rattle.std.proofs.Common.{◌∙◌, List, subst}
use Rattle.gtd_hours_holiday_rules.specs.declared.parts.Part.{Part}
use Rattle.gtd_hours_holiday_rules.specs.Reading.{HasParts}
use Rattle.gtd_hours_holiday_rules.proofs.OneText.{same_length}
use Rattle.gtd_hours_holiday_rules.proofs.text.holiday_text.Goals as goal

pub returns-clause-text : goal.returns-clause-text
returns-clause-text c =
    let parts = c.in_ok-parts.ensures.parts in
    record {
      tokens = parts.are.tokens;
      are = parts.are.are;
      whole = parts.are.whole;
      has = record {
        items = parts.items;
        are = parts.are.made;
        has = subst (λ (l : List Part). HasParts c.args.text.now l c.in_ok-read.read) (c.as_slice.ensures.value ∙ parts.is)
            c.in_ok-read.ensures;
      };
    }

pub returns-clause-length : goal.returns-clause-length
returns-clause-length c = same_length c.args.text.now c.as_slice.result.now c.in_ok-read.read c.in_ok-read.ensures
