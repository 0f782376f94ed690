-- A text with a fault as it is written is read by its strict form.
use Rattle.std.proofs.Common.{rules, ◌≡◌, subst}
use Rattle.gtd_hours_options.specs.Manners.{written}
use Rattle.gtd_hours_options.specs.Reading.{IsOptionsStop}
use Rattle.gtd_hours_options.specs.declared.fault.OptionsReadFault.{OptionsReadFault}
use Rattle.gtd_hours_options.specs.declared.fault.OptionsReadFault.TheVariants as reading
use Rattle.gtd_hours_options.proofs.MannerFacts.{loose_fault}
use Rattle.gtd_hours_options.proofs.manner.read_loosely.Goals as goal

pub returns-in-Ok-clause-hours : goal.returns-in-Ok-clause-hours
returns-in-Ok-clause-hours c = written c.in-Ok.ensures.form c.in-Ok.ensures.hours

pub returns-in-Fault-clause-fault : goal.returns-in-Fault-clause-fault
returns-in-Fault-clause-fault c =
    let same : c.in-Err.why ≡ reading.Fault c.in-Fault.bad = search rules in
    let fault = subst (λ (why : OptionsReadFault). IsOptionsStop c.args.options.now c.args.text.now why) same
    c.in-Err.ensures.fault in
    loose_fault c.args.names c.args.options.now c.args.text.now c.in-Fault.bad c.read_mended.result fault
    c.read_mended.ensures.fault
