-- What is put is the line of the comparison; without memory for it nothing is put.
use Rattle.std.proofs.Common.{◌∙◌}
use Rattle.gtdesk_tool.proofs.ComparingFacts.{puts_line, same_failures}
use Rattle.gtdesk_tool.proofs.same.put_comparison.Goals as goal

pub returns-in-Ok-clause-put : goal.returns-in-Ok-clause-put
returns-in-Ok-clause-put g c =
    rw (c.with_ending.ensures.value, c.ending_of.ensures.value)
    (puts_line _ _ _ c.args.found _ c.print_bytes.result (c.as_slice.ensures.value ∙ c.in-Ok.ensures.exact)
    c.print_bytes.ensures.put)

pub returns-in-Ok-clause-write_faults : goal.returns-in-Ok-clause-write_faults
returns-in-Ok-clause-write_faults g c =
    rw (c.with_ending.ensures.value)
    (c.print_bytes.ensures.write_faults ∙ same_failures c.ending_of.result c.print_bytes.result _)
