-- A failure of the output is one of the drawing, whose outcome the command hands on.
use Rattle.gtdesk_tool.specs.Running.{failures_after_write}
use Rattle.gtdesk_tool.proofs.RunningFacts.{handed_on, picture_writes}
use Rattle.gtdesk_tool.proofs.picture.print_domain.Goals as goal

pub returns-clause-write_faults : goal.returns-clause-write_faults
returns-clause-write_faults g c =
    handed_on failures_after_write _ _ _ _ _
    c.put_seen_domain_picture.ensures.write_faults (picture_writes c.put_seen_domain_picture.result _)
    c.picture_outcome.ensures.value
