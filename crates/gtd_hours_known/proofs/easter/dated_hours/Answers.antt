-- A text of plain hours has no fault.
use Rattle.std.proofs.Common.{rules, ◌≡◌, subst}
use Rattle.gtd_hours_grammar.specs.facts.FirstFault.{hours_or_fault}
use Rattle.gtd_hours_text.specs.Reading.{IsFaultOf}
use Rattle.gtd_hours_text.specs.declared.reader.HoursTextFault.{HoursTextFault}
use Rattle.gtd_hours_text.specs.declared.reader.HoursTextFault.TheVariants as text_fault
use Rattle.gtd_hours_known.proofs.easter.dated_hours.Goals as goal

pub unreachable-requires : goal.unreachable-requires
unreachable-requires c =
    let same : c.in-Err.why ≡ text_fault.Fault c.in-Fault.field-0 = search rules in
    let fault = subst (λ (why : HoursTextFault). IsFaultOf c.args.text.now why) same c.in-Err.ensures.fault in
    hours_or_fault c.args.text.now c.requires.0 c.in-Fault.field-0 c.requires.1 fault
