-- A text that is no plain hours is read by its rules, or has a bad place.
use Rattle.std.proofs.Common.{sym, subst}
use Rattle.gtd_hours_known.specs.Reading.{IsOtherStop}
use Rattle.gtd_hours_known.proofs.ReadingFacts.{listed_fault, listed_hours, no_text}
use Rattle.gtd_hours_known.proofs.reader.read_other.Goals as goal

pub returns-in-Err-clause-fault : goal.returns-in-Err-clause-fault
returns-in-Err-clause-fault c =
    subst (IsOtherStop c.args.known.now c.args.text.now) (sym c.stopped.ensures)
    (no_text c.args.known.now c.args.text.now c.in-Err.why c.in-Err.ensures.fault)

pub returns-in-Ok-clause-hours : goal.returns-in-Ok-clause-hours
returns-in-Ok-clause-hours c =
    listed_hours c.args.known.now c.args.text.now c.in-Ok.found c.read_found.result c.requires c.in-Ok.ensures.text
    c.read_found.ensures.sound c.read_found.ensures.hours c.read_found.ensures.marks

pub returns-in-Ok-clause-fault : goal.returns-in-Ok-clause-fault
returns-in-Ok-clause-fault c =
    listed_fault c.args.known.now c.args.text.now c.in-Ok.found c.read_found.result c.in-Ok.ensures.text
    c.read_found.ensures.fault
