-- The text with the word is read first, and the one without it only if that is no hours.
use Rattle.std.proofs.lemmas.Result.{IfOk-weaker}
use Rattle.gtd_hours_warnings.specs.Forms.{other, said, unsaid}
use Rattle.gtd_hours_warnings.proofs.WarningFacts.{faulty}
use Rattle.gtd_hours_warnings.proofs.forms.joined_form.Goals as goal

pub returns-in-Some : goal.returns-in-Some
returns-in-Some c =
    let stands = rw c.in-Some.is at c.in_ok-hours.ensures in
    IfOk-weaker c.written.result _ _ (λ form is. said (c.in-Some.hours, stands, is)) c.written.ensures

pub returns-in-Some-2 : goal.returns-in-Some-2
returns-in-Some-2 c =
    let fault = faulty _ c.in_ok-hours.field-0 c.in_ok-hours.ensures c.in_default.not-Some in
    let stands = rw c.in-Some-2.is at c.in_ok-hours-2.ensures in
    IfOk-weaker c.written-in-Some-2.result _ _ (λ form is. unsaid fault (c.in-Some-2.hours, stands, is))
    c.written-in-Some-2.ensures

pub returns-in-None : goal.returns-in-None
returns-in-None c =
    let fault = faulty _ c.in_ok-hours.field-0 c.in_ok-hours.ensures c.in_default.not-Some in
    let bare = rw c.in-None.is at c.in_ok-hours-2.ensures in
    IfOk-weaker c.with_comma.result _ _ (λ form is. other fault bare is) c.with_comma.ensures
