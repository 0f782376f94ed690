-- A text that is read without options for times is read so; another one has a fault so.
use Rattle.std.proofs.Common.{rules, ◌≡◌, subst}
use Rattle.gtd_hours_known.specs.Reading.{IsKnownStop}
use Rattle.gtd_hours_known.specs.declared.fault.KnownReadFault.{KnownReadFault}
use Rattle.gtd_hours_known.specs.declared.fault.KnownReadFault.TheVariants as known_reading
use Rattle.gtd_hours_options.specs.Reading.{known}
use Rattle.gtd_hours_options.proofs.ReadingFacts.{options_fault}
use Rattle.gtd_hours_options.proofs.reader.read_hours_with.Goals as goal

pub returns-in-Ok-clause-hours : goal.returns-in-Ok-clause-hours
returns-in-Ok-clause-hours c = known c.in-Ok.ensures.hours

pub returns-in-Fault-clause-fault : goal.returns-in-Fault-clause-fault
returns-in-Fault-clause-fault c =
    let same : c.in-Err.why ≡ known_reading.Fault c.in-Fault.bad = search rules in
    let fault = subst (λ (why : KnownReadFault). IsKnownStop c.args.options.now.known c.args.text.now why) same
    c.in-Err.ensures.fault in
    options_fault c.args.options.now c.args.text.now c.in-Fault.bad c.read_other.result fault c.read_other.ensures.fault
