-- Of a file that was mended both outputs take all, the text and the list of changes, or a first part of it.
use Rattle.std.specs.Prelude.{string_bytes}
use Rattle.gtd_mend.proofs.MendFacts.{has_mended}
use Rattle.gtd_mend.proofs.run.put_mended.Goals as goal

pub returns-in-Ok-Mended-clause-mended : goal.returns-in-Ok-Mended-clause-mended
returns-in-Ok-Mended-clause-mended g c =
    let found = rw c.in-Ok-Mended.field-0-is at c.in-Ok-Mended.ensures.mended in
    has_mended c.args.path.now c.args.bytes.now c.in-Ok-Mended.bytes.items (string_bytes c.in-Ok-Mended.lines) found.0
    c.in-Ok-Mended.count (g.O.Output.taken c.args.output.now) (g.O.Output.taken c.put_both-in-Ok-Mended.new.output)
    (g.L.Output.taken c.args.listing.now) (g.L.Output.taken c.put_both-in-Ok-Mended.new.listing)
    c.put_both-in-Ok-Mended.result found.1 found.2 found.3
    (rw (c.as_slice.ensures.value, c.as_bytes.ensures.value) at c.put_both-in-Ok-Mended.ensures.put)
