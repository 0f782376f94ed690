-- A text with a fault is no plain hours, so it is read by its strict form.
use Rattle.std.proofs.Common.{rules, ◌≡◌, subst}
use Rattle.gtd_hours_text.specs.Reading.{IsFaultOf}
use Rattle.gtd_hours_text.specs.declared.reader.HoursTextFault.{HoursTextFault}
use Rattle.gtd_hours_text.specs.declared.reader.HoursTextFault.TheVariants as text_fault
use Rattle.gtd_hours_known.proofs.ReadingFacts.{loose_fault, not_strict}
use Rattle.gtd_hours_known.proofs.manner.read_loosely.Goals as goal

pub read_mended-requires : goal.read_mended-requires
read_mended-requires c =
    let same : c.in-Err.why ≡ text_fault.Fault c.in-Fault.field-0 = search rules in
    let fault = subst (λ (why : HoursTextFault). IsFaultOf c.args.text.now why) same c.in-Err.ensures.fault in
    not_strict c.args.text.now c.in-Fault.field-0 fault

pub returns-in-Fault-clause-fault : goal.returns-in-Fault-clause-fault
returns-in-Fault-clause-fault c =
    let same : c.in-Err.why ≡ text_fault.Fault c.in-Fault.field-0 = search rules in
    let fault = subst (λ (why : HoursTextFault). IsFaultOf c.args.text.now why) same c.in-Err.ensures.fault in
    loose_fault c.args.names c.args.known.now c.args.text.now c.read_mended.result
    (not_strict c.args.text.now c.in-Fault.field-0 fault) c.read_mended.ensures.fault
