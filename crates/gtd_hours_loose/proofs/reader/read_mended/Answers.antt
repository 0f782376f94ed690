-- Without a strict form the fault is that of a token; with one, it is that of the form, at its place in the text.
use Rattle.std.proofs.Common.{ℕ, List, subst, sym}
use Rattle.gtd_hours_text.specs.Reading.{IsFaultOf}
use Rattle.gtd_hours_loose.specs.Reading.{IsMendedStop}
use Rattle.gtd_hours_loose.proofs.ReadingLemmas.{form_fault, stop_fault}
use Rattle.gtd_hours_loose.proofs.reader.read_mended.Goals as goal

pub returns-in-Err-clause-fault : goal.returns-in-Err-clause-fault
returns-in-Err-clause-fault c =
    subst (IsMendedStop c.args.names c.args.text.now) (sym c.stopped.ensures)
    (stop_fault c.args.names c.args.text.now c.in-Err.stop c.in-Err.ensures.fault)

pub returns-in-Err-read_hours-clause-fault : goal.returns-in-Err-read_hours-clause-fault
returns-in-Err-read_hours-clause-fault c =
    let why = c.in-Err-read_hours.why in
    let fault = subst (λ (l : List ℕ). IsFaultOf l why) c.as_slice.ensures.value c.in-Err-read_hours.ensures.fault in
    subst (IsMendedStop c.args.names c.args.text.now) (sym c.placed.ensures)
    (form_fault c.args.names c.args.text.now c.in-Ok.form why c.in-Ok.ensures.form fault)
