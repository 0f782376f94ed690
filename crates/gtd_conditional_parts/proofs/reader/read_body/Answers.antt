-- A part has no `@`, or one is at fault, or all are read.
use Rattle.std.proofs.Common.{refl}
use Rattle.gtd_hours_options.specs.Readings.{how_read}
use Rattle.gtd_conditional_parts.specs.Values.{no_at}
use Rattle.gtd_conditional_parts.proofs.ValueSteps.{body_stop}
use Rattle.gtd_conditional_parts.proofs.reader.read_body.Goals as goal

pub returns-in-Some-clause-fault : goal.returns-in-Some-clause-fault
returns-in-Some-clause-fault c = no_at c.in-Some.place c.in-Some.ensures.first refl

pub returns-in-Err-clause-fault : goal.returns-in-Err-clause-fault
returns-in-Err-clause-fault c =
    body_stop c.args.subject (how_read c.args.reading) c.args.means.now.rows.items c.args.text.now c.in-None.ensures.first
    c.in-Err.why c.in-Err.ensures.fault
