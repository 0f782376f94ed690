-- A text with a fault is not strict, so the hours and faults are those of its strict form.
use Rattle.std.proofs.Common.{rules, ◌≡◌, subst}
use Rattle.gtd_hours_text.specs.Reading.{IsFaultOf}
use Rattle.gtd_hours_text.specs.declared.reader.HoursTextFault.{HoursTextFault}
use Rattle.gtd_hours_text.specs.declared.reader.HoursTextFault.TheVariants as text_fault
use Rattle.gtd_hours_loose.proofs.ReadingLemmas.{mended_fault, mended_reading, not_strict}
use Rattle.gtd_hours_loose.proofs.reader.read_loose_hours.Goals as goal

pub returns-in-Fault-clause-hours : goal.returns-in-Fault-clause-hours
returns-in-Fault-clause-hours c =
    let same : c.in-Err.why ≡ text_fault.Fault c.in-Fault.field-0 = search rules in
    let fault = subst (λ (why : HoursTextFault). IsFaultOf c.args.text.now why) same c.in-Err.ensures.fault in
    mended_reading c.args.names c.args.text.now c.read_mended.result (not_strict c.args.text.now c.in-Fault.field-0 fault)
    c.read_mended.ensures.hours c.read_mended.ensures.mended

pub returns-in-Fault-clause-fault : goal.returns-in-Fault-clause-fault
returns-in-Fault-clause-fault c =
    let same : c.in-Err.why ≡ text_fault.Fault c.in-Fault.field-0 = search rules in
    let fault = subst (λ (why : HoursTextFault). IsFaultOf c.args.text.now why) same c.in-Err.ensures.fault in
    mended_fault c.args.names c.args.text.now c.read_mended.result (not_strict c.args.text.now c.in-Fault.field-0 fault)
    c.read_mended.ensures.fault
