-- A text that is at fault as it is written is mended by its strict form.
use Rattle.std.proofs.Common.{subst}
use Rattle.std.proofs.lemmas.Result.{IfErr-weaker, IfOk-weaker}
use Rattle.gtd_hours_mended.specs.Mending.{IsOtherText, IsUnmendedStop}
use Rattle.gtd_hours_mended.proofs.MendingFacts.{other_stop}
use Rattle.gtd_hours_mended.proofs.mender.mended_other.Goals as goal

pub returns-in-Err-Fault-clause-mended : goal.returns-in-Err-Fault-clause-mended
returns-in-Err-Fault-clause-mended c =
    let own = subst (IsUnmendedStop c.args.text.now) c.in-Err-Fault.field-0-is c.in-Err-Fault.ensures.fault in
    IfOk-weaker c.mended_form.result _ _
    (λ mended is. IsOtherText.form c.in-Err-Fault.field-0-0 own is) c.mended_form.ensures.mended

pub returns-in-Err-Fault-clause-fault : goal.returns-in-Err-Fault-clause-fault
returns-in-Err-Fault-clause-fault c =
    let own = subst (IsUnmendedStop c.args.text.now) c.in-Err-Fault.field-0-is c.in-Err-Fault.ensures.fault in
    IfErr-weaker c.mended_form.result _ _
    (λ why stop. other_stop c.args.names c.args.text.now c.in-Err-Fault.field-0-0 why own stop) c.mended_form.ensures.fault
