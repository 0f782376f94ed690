-- Plain hours are written as they are, and other texts by their rules.
use Rattle.std.proofs.Common.{subst}
use Rattle.std.proofs.lemmas.Result.{IfErr-weaker, IfOk-weaker}
use Rattle.gtd_hours_loose.specs.Reading.{IsReadFault}
use Rattle.gtd_hours_mended.specs.Mending.{IsMendedText}
use Rattle.gtd_hours_mended.proofs.MendingFacts.{mend_stop}
use Rattle.gtd_hours_mended.proofs.mender.mended_hours.Goals as goal

pub returns-in-Ok-clause-mended : goal.returns-in-Ok-clause-mended
returns-in-Ok-clause-mended c =
    IfOk-weaker c.mended_plain.result _ _ (λ mended written. IsMendedText.plain c.in-Ok.read c.in-Ok.ensures.hours written)
    c.mended_plain.ensures.written

pub returns-in-Err-Fault-clause-mended : goal.returns-in-Err-Fault-clause-mended
returns-in-Err-Fault-clause-mended c =
    let plain = subst (IsReadFault c.args.names c.args.text.now) c.in-Err-Fault.field-0-is c.in-Err-Fault.ensures.fault in
    IfOk-weaker c.mended_other.result _ _ (λ mended is. IsMendedText.other c.in-Err-Fault.field-0-0 plain is)
    c.mended_other.ensures.mended

pub returns-in-Err-Fault-clause-fault : goal.returns-in-Err-Fault-clause-fault
returns-in-Err-Fault-clause-fault c =
    let plain = subst (IsReadFault c.args.names c.args.text.now) c.in-Err-Fault.field-0-is c.in-Err-Fault.ensures.fault in
    IfErr-weaker c.mended_other.result _ _
    (λ why stop. mend_stop c.args.names c.args.text.now c.in-Err-Fault.field-0-0 why plain stop) c.mended_other.ensures.fault
