-- A text that is read, or that only asks for options, is not at fault.
use Rattle.std.proofs.Common.{subst, sym}
use Rattle.std.proofs.lemmas.Result.{IfErr-weaker}
use Rattle.gtd_hours_options.specs.Reading.{IsOptionsStop}
use Rattle.gtd_hours_mended.specs.Mending.{IsFaultyStop, IsSound}
use Rattle.gtd_hours_mended.proofs.MendingFacts.{needs_sound}
use Rattle.gtd_hours_mended.proofs.sound.check_sound.Goals as goal

pub returns-in-Ok-clause-sound : goal.returns-in-Ok-clause-sound
returns-in-Ok-clause-sound c =
    IsSound.read c.no_options-nothing.result c.in-Ok.field-0 c.no_options-nothing.ensures c.in-Ok.ensures.hours

pub returns-clause-sound : goal.returns-clause-sound
returns-clause-sound c =
    let nothing = c.no_options-nothing.result in
    needs_sound nothing c.args.text.now c.in-Err-Fault.bad c.check_fault.result c.no_options-nothing.ensures
    (subst (IsOptionsStop nothing c.args.text.now) c.in-Err-Fault.field-0-is c.in-Err-Fault.ensures.fault)
    c.check_fault.ensures.need

pub returns-clause-fault : goal.returns-clause-fault
returns-clause-fault c =
    let nothing = c.no_options-nothing.result in
    let text = c.args.text.now in
    let fault = subst (IsOptionsStop nothing text) c.in-Err-Fault.field-0-is c.in-Err-Fault.ensures.fault in
    IfErr-weaker c.check_fault.result _ _
    (λ why is. subst (IsFaultyStop text) (sym is.0)
    (record { options = nothing; nothing = c.no_options-nothing.ensures; fault = fault; own = is.1 }))
    c.check_fault.ensures.fault
