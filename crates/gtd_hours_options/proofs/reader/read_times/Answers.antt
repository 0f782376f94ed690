-- The checked text is read, or its fault is told.
use Rattle.std.proofs.Common.{ℕ, List, subst, sym}
use Rattle.gtd_hours_known.specs.Reading.{IsKnownStop}
use Rattle.gtd_hours_options.specs.Reading.{IsRead, IsTimesStop}
use Rattle.gtd_hours_options.proofs.ReadingFacts.{checked_text}
use Rattle.gtd_hours_options.proofs.reader.read_times.Goals as goal

pub read_checked-requires-clause-checked : goal.read_checked-requires-clause-checked
read_checked-requires-clause-checked c =
    subst (IsRead c.args.options.now.known) c.as_slice.ensures.value c.in-Ok.ensures.read

pub returns-in-Err-clause-fault : goal.returns-in-Err-clause-fault
returns-in-Err-clause-fault c =
    let why = c.in-Err.why in
    let fault = subst (λ (l : List ℕ). IsKnownStop c.args.options.now.known l why) c.as_slice.ensures.value
    c.in-Err.ensures.fault in
    subst (IsTimesStop c.args.options.now c.args.text.now) (sym c.checked_stop.ensures)
    (checked_text c.args.options.now c.args.text.now c.args.moments.now why c.requires fault)
