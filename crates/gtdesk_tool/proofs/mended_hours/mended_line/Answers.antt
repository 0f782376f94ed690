-- The line is that of the mended text.
use Rattle.std.proofs.Common.{ℕ, List, subst}
use Rattle.gtd_hours_mended.specs.Mending.{IsMendedText}
use Rattle.gtdesk_tool.proofs.mended_hours.mended_line.Goals as goal

pub returns-in-Ok-line_of-clause-line : goal.returns-in-Ok-line_of-clause-line
returns-in-Ok-line_of-clause-line c =
    let mended = c.in-Ok.mended.items in (
      mended,
      subst (λ (text : List ℕ). IsMendedText c.args.names text mended) c.as_bytes.ensures.value c.in-Ok.ensures.mended,
      c.in-Ok-line_of.ensures,
    )
