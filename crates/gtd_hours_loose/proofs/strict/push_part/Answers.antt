-- The new part stands at the end of the strict text, followed by a space, and begins where the text ended before.
use Rattle.std.proofs.Common.{arith}
use Rattle.gtd_hours_loose.proofs.MendingLemmas.{part_ended}
use Rattle.gtd_hours_loose.proofs.strict.push_part.Goals as goal

pub returns : goal.returns
returns c = λ ms h.
    part_ended c.args.strict.now c.end_part.new.strict ms
    (record { from = c.args.from; to = c.args.to; form = c.args.form.now }) c.extend_from_slice.new.self.items
    c.len-start.result h c.in_ok-extend_from_slice.ensures.items (omega (arith, c.len-start.ensures))
    c.in_ok-end_part.ensures.text c.in_ok-end_part.ensures.parts
