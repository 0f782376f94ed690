-- The line of the domain comes first, and then the warnings; a text that is refused puts neither.
use Rattle.gtdesk_tool.proofs.TextFacts.{text_refused}
use Rattle.gtdesk_tool.proofs.text_hours.print_with.Goals as goal

pub returns-in-Err-clause-ran : goal.returns-in-Err-clause-ran
returns-in-Err-clause-ran g c =
    rw (c.manner_of.ensures, c.as_str.ensures.value) at
    (text_refused c.args.options.now c.manner_of.result c.as_str.result.now (g.O.Output.taken c.args.output.now)
    (g.O.Output.is_ended c.args.output.now) (g.E.Output.taken c.args.errors.now)
    (g.E.Output.failure_count c.args.errors.now) c.in-Err.refusal c.in-Err.ensures.refused)
