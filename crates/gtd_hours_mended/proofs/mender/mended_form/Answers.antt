-- Without a strict form the fault is that of a token; with one, text and fault are those of the form.
use Rattle.std.proofs.Common.{◌∙◌, ap, ℕ, List, length, subst, sym}
use Rattle.gtd_hours_loose.specs.declared.strict.Part.{Part}
use Rattle.gtd_hours_options.specs.Manners.{placed}
use Rattle.gtd_hours_mended.specs.Mending.{IsFormStop, IsMended, IsUnmendedStop}
use Rattle.gtd_hours_mended.proofs.MendingFacts.{form_stop, placed_stop}
use Rattle.gtd_hours_mended.proofs.mender.mended_form.Goals as goal

pub returns-in-Err-clause-fault : goal.returns-in-Err-clause-fault
returns-in-Err-clause-fault c =
    subst (IsFormStop c.args.names c.args.text.now) (sym c.no_form.ensures)
    (form_stop c.args.names c.args.text.now c.in-Err.stop c.in-Err.ensures.fault)

pub returns-in-Ok-mended_as_written-clause-mended : goal.returns-in-Ok-mended_as_written-clause-mended
returns-in-Ok-mended_as_written-clause-mended c = record {
  form = c.in-Ok.form;
  is = c.in-Ok.ensures.form;
  mends = subst (λ (l : List ℕ). IsMended l c.in-Ok-mended_as_written.mended.items) c.as_slice.ensures.value
      c.in-Ok-mended_as_written.ensures.mended;
}

pub returns-clause-fault : goal.returns-clause-fault
returns-clause-fault c =
    let why = c.in-Err-mended_as_written.why in
    let form = c.in-Ok.form in
    let stop = subst (λ (l : List ℕ). IsUnmendedStop l why) c.as_slice.ensures.value c.in-Err-mended_as_written.ensures.fault in
    let same = c.placed.ensures
    ∙ ap (λ (l : List Part). placed (length c.args.text.now) l why) c.as_slice-in-Err-mended_as_written.ensures.value in
    subst (IsFormStop c.args.names c.args.text.now) (sym same)
    (placed_stop c.args.names c.args.text.now form why c.in-Ok.ensures.form stop)
