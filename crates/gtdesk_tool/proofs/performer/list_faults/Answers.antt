-- A failure of the input or output is one of the listing, whose outcome the command hands on.
use Rattle.gtdesk_tool.specs.Running.{failures_after_read, failures_after_write}
use Rattle.gtdesk_tool.proofs.RunningFacts.{handed_on, listing_reads, listing_writes}
use Rattle.gtdesk_tool.proofs.performer.list_faults.Goals as goal

pub returns-clause-read_faults : goal.returns-clause-read_faults
returns-clause-read_faults g c =
    handed_on failures_after_read _ _ _ _ _
    c.run_faults.ensures.read_faults (listing_reads c.run_faults.result _) c.listing_outcome.ensures.value

pub returns-clause-write_faults : goal.returns-clause-write_faults
returns-clause-write_faults g c =
    handed_on failures_after_write _ _ _ _ _
    c.run_faults.ensures.write_faults (listing_writes c.run_faults.result _) c.listing_outcome.ensures.value
