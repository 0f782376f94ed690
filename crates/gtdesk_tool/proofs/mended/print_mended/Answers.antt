-- A failure of the input or output is one of the run that mends, whose outcome the command hands on.
use Rattle.gtdesk_tool.specs.Running.{failures_after_read, failures_after_write}
use Rattle.gtdesk_tool.proofs.MendedFacts.{mended_reads, mended_writes}
use Rattle.gtdesk_tool.proofs.RunningFacts.{handed_on}
use Rattle.gtdesk_tool.proofs.mended.print_mended.Goals as goal

pub returns-clause-read_faults : goal.returns-clause-read_faults
returns-clause-read_faults g c =
    handed_on failures_after_read _ _ _ _ _
    c.run_mend.ensures.read_faults (mended_reads c.run_mend.result _) c.mended_outcome.ensures.value

pub returns-clause-write_faults : goal.returns-clause-write_faults
returns-clause-write_faults g c =
    handed_on failures_after_write _ _ _ _ _
    c.run_mend.ensures.write_faults (mended_writes c.run_mend.result _) c.mended_outcome.ensures.value
