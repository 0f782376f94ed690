-- The form stands at the end of the text, with a space behind it, and begins where the text ended before.
use Rattle.std.proofs.Common.{arith}
use Rattle.gtd_hours_moments.proofs.PlaceLemmas.{form_ended}
use Rattle.gtd_hours_moments.proofs.placed.push_placed.Goals as goal

pub returns : goal.returns
returns c = λ ps h.
    form_ended c.args.placed.now c.end_placed.new.placed ps (record { from = c.args.from; form = c.args.form.now })
    c.extend_from_slice.new.self.items c.len-start.result h c.in_ok-extend_from_slice.ensures.items
    (omega (arith, c.len-start.ensures)) c.in_ok-end_placed.ensures.text c.in_ok-end_placed.ensures.places
