-- A text with a fault is no plain hours.
use Rattle.std.proofs.Common.{rules, ◌≡◌, subst}
use Rattle.gtd_hours_text.specs.Reading.{IsFaultOf}
use Rattle.gtd_hours_text.specs.declared.reader.HoursTextFault.{HoursTextFault}
use Rattle.gtd_hours_text.specs.declared.reader.HoursTextFault.TheVariants as text_fault
use Rattle.gtd_hours_known.proofs.ReadingFacts.{known_fault, not_strict}
use Rattle.gtd_hours_known.proofs.reader.read_known_hours.Goals as goal

pub returns-in-Fault-clause-fault : goal.returns-in-Fault-clause-fault
returns-in-Fault-clause-fault c =
    let same : c.in-Err.why ≡ text_fault.Fault c.in-Fault.field-0 = search rules in
    let fault = subst (λ (why : HoursTextFault). IsFaultOf c.args.text.now why) same c.in-Err.ensures.fault in
    known_fault c.args.known.now c.args.text.now c.read_other.result (not_strict c.args.text.now c.in-Fault.field-0 fault)
    c.read_other.ensures.fault

pub read_other-requires : goal.read_other-requires
read_other-requires c =
    let same : c.in-Err.why ≡ text_fault.Fault c.in-Fault.field-0 = search rules in
    let fault = subst (λ (why : HoursTextFault). IsFaultOf c.args.text.now why) same c.in-Err.ensures.fault in
    not_strict c.args.text.now c.in-Fault.field-0 fault
