-- The rules of the text with ranges of times are looked through, and their places led back.
use Rattle.std.proofs.lemmas.Result.{IfOk-weaker}
use Rattle.gtd_hours_warnings.specs.WholeDays.{fault}
use Rattle.gtd_hours_warnings.proofs.MarkFacts.{whole_days_found}
use Rattle.gtd_hours_warnings.proofs.whole_days.whole_days.Goals as goal

pub returns-in_ok-plain-in-Ok : goal.returns-in_ok-plain-in-Ok
returns-in_ok-plain-in-Ok c =
    IfOk-weaker c.written_places.result _ _ (λ found is. whole_days_found c.args.text.now c.in-Ok.moments c.as_slice.result.now
    c.in_ok-plain-in-Ok.plain.items c.as_slice-in-Ok.result.now found.items c.as_slice-forms.result.now c.in-Ok.ensures.text
    c.as_slice.ensures.value c.in_ok-plain-in-Ok.ensures c.as_slice-in-Ok.ensures.value c.as_slice-forms.ensures.value is)
    c.written_places.ensures

pub returns-in-Err-BadToken : goal.returns-in-Err-BadToken
returns-in-Err-BadToken c =
    let bad = rw c.in-Err-BadToken.field-0-is at c.in-Err-BadToken.ensures.fault in
    fault c.in-Err-BadToken.field-0-0 bad c.new.ensures.items
