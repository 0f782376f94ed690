-- Faults that are listed are told; without memory nothing is.
use Rattle.gtdesk_tool.proofs.holiday_table.tell_faults.Goals as goal

pub returns-in-Ok : goal.returns-in-Ok
returns-in-Ok g c = record { told = c.in-Ok.ensures.listed.1 }

pub returns-in-Err : goal.returns-in-Err
returns-in-Err g c = record { told = c.in-Err.ensures.listed }
