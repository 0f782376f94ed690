-- What is known of the checked text is known of the text.
use Rattle.std.proofs.Common.{subst, sym}
use Rattle.std.proofs.lemmas.Result.{IfErr-weaker, IfOk-weaker}
use Rattle.gtd_hours_mended.specs.Mending.{IsUnmendedStop}
use Rattle.gtd_hours_mended.proofs.MendingFacts.{checked_mended, checked_stop, moments_stop}
use Rattle.gtd_hours_mended.proofs.written.mended_sound.Goals as goal

pub returns-in-Err-clause-fault : goal.returns-in-Err-clause-fault
returns-in-Err-clause-fault c =
    subst (IsUnmendedStop c.args.text.now) (sym c.no_moments.ensures)
    (moments_stop c.args.text.now c.in-Err.why c.requires c.in-Err.ensures.fault)

pub returns-in-Ok-clause-mended : goal.returns-in-Ok-clause-mended
returns-in-Ok-clause-mended c =
    IfOk-weaker c.mended_checked.result _ _
    (λ mended has. checked_mended c.args.text.now mended.items c.as_slice.result.now c.as_slice-in-Ok.result.now c.in-Ok.moments
    c.requires c.in-Ok.ensures.text c.as_slice.ensures.value c.as_slice-in-Ok.ensures.value has)
    c.mended_checked.ensures.mended

pub returns-in-Ok-clause-fault : goal.returns-in-Ok-clause-fault
returns-in-Ok-clause-fault c =
    IfErr-weaker c.mended_checked.result _ _
    (λ why stop. checked_stop c.args.text.now c.as_slice.result.now c.in-Ok.moments why c.requires c.in-Ok.ensures.text
    c.as_slice.ensures.value stop)
    c.mended_checked.ensures.fault
