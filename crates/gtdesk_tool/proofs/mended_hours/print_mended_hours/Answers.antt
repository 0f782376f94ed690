-- What is put is the line of the mended text; where there is none, the output has not failed.
use Rattle.std.proofs.Common.{sym, subst}
use Rattle.gtdesk_tool.specs.MendedHours.{IsMendedLine}
use Rattle.gtdesk_tool.proofs.LooseFacts.{of_unmended}
use Rattle.gtdesk_tool.proofs.RunningFacts.{put_as}
use Rattle.gtdesk_tool.proofs.mended_hours.print_mended_hours.Goals as goal

pub returns-in-Ok-clause-put : goal.returns-in-Ok-clause-put
returns-in-Ok-clause-put g c =
    put_as (IsMendedLine c.args.names c.args.text.now) _ _ _ _ _ _
    (subst (IsMendedLine c.args.names c.args.text.now) (sym c.as_slice.ensures.value) c.in-Ok.ensures.line)
    c.print_bytes.ensures.put

pub returns-in-Err-clause-write_faults : goal.returns-in-Err-clause-write_faults
returns-in-Err-clause-write_faults g c =
    (of_unmended c.args.names c.args.text.now _ c.in-Err.refusal c.in-Err.ensures.refused).1
