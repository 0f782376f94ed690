-- What is put is the line of the hours; where there is none, or no memory, the output has not failed.
use Rattle.std.proofs.Common.{sym, subst}
use Rattle.gtdesk_tool.specs.Hours.{IsHoursLine}
use Rattle.gtdesk_tool.proofs.RunningFacts.{of_hours, put_as}
use Rattle.gtdesk_tool.proofs.domain_hours.print_hours_of.Goals as goal

pub returns-in-Ok-clause-put : goal.returns-in-Ok-clause-put
returns-in-Ok-clause-put g c =
    put_as (IsHoursLine c.args.domain.now) _ _ _ _ _ _
    (subst (IsHoursLine c.args.domain.now) (sym c.as_str.ensures.value) c.in-Ok.ensures.line) c.print_text.ensures.put

pub returns-in-Err-clause-write_faults : goal.returns-in-Err-clause-write_faults
returns-in-Err-clause-write_faults g c = (of_hours _ c.in-Err.refusal c.in-Err.ensures.refused).1
