-- What is written for the token stands at the end of the text, with a space behind it.
use Rattle.std.proofs.Common.{◌≡◌, ◌++◌, List, ℕ, ap, ◌∙◌, arith}
use Rattle.gtd_hours_moments.specs.Checked.{checked_at, form_of}
use Rattle.gtd_hours_moments.proofs.PlaceLemmas.{form_ended}
use Rattle.gtd_hours_moments.proofs.checked.push_checked.Goals as goal

pub returns : goal.returns
returns c = λ ps h.
    let put = checked_at c.args.text.now c.args.part in
    let old = c.args.checked.now.text.items in
    let form : c.push_written.new.out.items ≡ old ++ put.form =
    c.in_ok-push_written.ensures ∙ ap (λ (l : List ℕ). old ++ form_of c.args.part.written l) c.stretch.ensures in
    form_ended c.args.checked.now c.end_placed.new.placed ps put c.push_written.new.out.items c.len-start.result h form
    (omega (arith, c.len-start.ensures)) c.in_ok-end_placed.ensures.text c.in_ok-end_placed.ensures.places
