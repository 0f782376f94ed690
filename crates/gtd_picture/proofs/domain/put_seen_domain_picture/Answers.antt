-- What was put from nothing on is the picture, a first part of it, or nothing for a crowded domain.
use Rattle.gtd_picture.specs.Domain.{IsDomainSeen}
use Rattle.gtd_picture.proofs.PictureFacts.{has_put}
use Rattle.gtd_picture.proofs.domain.put_seen_domain_picture.Goals as goal

pub returns-clause-stands : goal.returns-clause-stands
returns-clause-stands g c =
    rw (c.answer.ensures.value) (has_put (IsDomainSeen c.args.domain.now c.args.title.now c.args.year) c.put_seen-put.result
    (g.O.Output.taken c.args.output.now) (g.O.Output.taken c.put_seen-put.new.output) c.put_seen-put.new.printer.progress
    (rw (c.new-printer.ensures.begins) at c.put_seen-put.ensures.puts))
