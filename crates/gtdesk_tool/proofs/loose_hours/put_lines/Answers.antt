-- The warnings are told only after the line was put and the output ended.
use Rattle.gtdesk_tool.proofs.LooseFacts.{lines_told}
use Rattle.gtdesk_tool.proofs.loose_hours.put_lines.Goals as goal

pub returns-in-Ok-clause-put : goal.returns-in-Ok-clause-put
returns-in-Ok-clause-put g c =
    lines_told _ _ _ _ _ _ _ _ c.in-Ok.ending c.as_str.ensures.value c.as_slice.ensures.value c.in-Ok.ensures.put
    c.tell_if_some.ensures.told
