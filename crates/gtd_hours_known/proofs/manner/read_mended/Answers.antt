-- Without a strict form the fault is that of a token; with one, hours and fault are those of the form, at places of the text.
use Rattle.std.proofs.Common.{◌∙◌, ap, ℕ, List, length, subst, sym}
use Rattle.gtd_hours_loose.specs.declared.strict.Part.{Part}
use Rattle.gtd_hours_known.specs.Manners.{IsMendedStop, mended, placed}
use Rattle.gtd_hours_known.specs.Reading.{IsKnownStop, KnownStandsFor}
use Rattle.gtd_hours_known.proofs.ReadingFacts.{form_stop, placed_stop}
use Rattle.gtd_hours_known.proofs.manner.read_mended.Goals as goal

pub returns-in-Err-clause-fault : goal.returns-in-Err-clause-fault
returns-in-Err-clause-fault c =
    subst (IsMendedStop c.args.names c.args.known.now c.args.text.now) (sym c.no_form.ensures)
    (form_stop c.args.names c.args.known.now c.args.text.now c.in-Err.stop c.in-Err.ensures.fault)

pub returns-in-Err-read_known_hours-clause-fault : goal.returns-in-Err-read_known_hours-clause-fault
returns-in-Err-read_known_hours-clause-fault c =
    let why = c.in-Err-read_known_hours.why in
    let form = c.in-Ok.form in
    let fault = subst (λ (l : List ℕ). IsKnownStop c.args.known.now l why) c.as_slice.ensures.value
    c.in-Err-read_known_hours.ensures.fault in
    let same = c.placed.ensures
    ∙ ap (λ (l : List Part). placed (length c.args.text.now) l why) c.as_slice-in-Err-read_known_hours.ensures.value in
    subst (IsMendedStop c.args.names c.args.known.now c.args.text.now) (sym same)
    (placed_stop c.args.names c.args.known.now c.args.text.now form why c.in-Ok.ensures.form fault)

pub returns-in-Ok-placed_read-clause-hours : goal.returns-in-Ok-placed_read-clause-hours
returns-in-Ok-placed_read-clause-hours c =
    let own = c.in-Ok-read_known_hours.read in
    let stands = subst (λ (l : List ℕ). KnownStandsFor c.args.known.now l own) c.as_slice.ensures.value
    c.in-Ok-read_known_hours.ensures.hours in
    mended c.in-Ok.form own c.requires c.in-Ok.ensures.form stands c.in-Ok-placed_read.ensures
