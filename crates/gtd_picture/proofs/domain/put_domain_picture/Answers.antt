-- What was put from nothing on is the picture, or a first part of it after a failure.
use Rattle.gtd_picture.specs.Domain.{IsDomainPicture}
use Rattle.gtd_picture.proofs.PictureFacts.{has_put}
use Rattle.gtd_picture.proofs.domain.put_domain_picture.Goals as goal

pub returns-clause-stands : goal.returns-clause-stands
returns-clause-stands g c =
    rw (c.answer.ensures.value) (has_put (IsDomainPicture c.args.domain.now c.args.title.now c.args.year) c.put_seconds-put.result
    (g.O.Output.taken c.args.output.now) (g.O.Output.taken c.put_seconds-put.new.output) c.put_seconds-put.new.printer.progress
    (rw (c.new-printer.ensures.begins) at c.put_seconds-put.ensures.puts))
