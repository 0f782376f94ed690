-- A failure of the input or output is one of the run, whose outcome the command hands on.
use Rattle.gtdesk_tool.specs.Running.{failures_after_read, failures_after_write}
use Rattle.gtdesk_tool.proofs.RunningFacts.{handed_on, records_reads, records_writes}
use Rattle.gtdesk_tool.proofs.hours_records.print_records.Goals as goal

pub returns-clause-read_faults : goal.returns-clause-read_faults
returns-clause-read_faults g c =
    handed_on failures_after_read _ _ _ _ _
    c.run_hours_records-answer.ensures.read_faults (records_reads c.run_hours_records-answer.result _)
    c.records_outcome.ensures.value

pub returns-clause-write_faults : goal.returns-clause-write_faults
returns-clause-write_faults g c =
    handed_on failures_after_write _ _ _ _ _
    c.run_hours_records-answer.ensures.write_faults (records_writes c.run_hours_records-answer.result _)
    c.records_outcome.ensures.value
