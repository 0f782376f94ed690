-- The strict form stands at the end of the strict text, followed by a space, and begins where the text ended before.
use Rattle.std.proofs.Common.{arith}
use Rattle.gtd_hours_loose.specs.Mending.{form_of}
use Rattle.gtd_hours_loose.proofs.MendingLemmas.{part_ended}
use Rattle.gtd_hours_loose.proofs.strict.push_strict.Goals as goal

pub returns : goal.returns
returns c = λ ms h.
    part_ended c.args.strict.now c.end_part.new.strict ms
    (record { from = c.args.from; to = c.args.to; form = form_of c.args.kind c.args.written.now }) c.push_form.new.out.items
    c.len-start.result h c.in_ok-push_form.ensures (omega (arith, c.len-start.ensures))
    c.in_ok-end_part.ensures.text c.in_ok-end_part.ensures.parts
