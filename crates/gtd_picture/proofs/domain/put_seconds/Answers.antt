-- The cursor gives the domain's seconds of the year, so the picture of its spans is the domain's picture.
use Rattle.std.specs.Prelude.{Ok, Err, codes}
use Rattle.std.proofs.lemmas.Result.{err_from_is_err_and}
use Rattle.gtd_eval.specs.Cursors.{cursor_list}
use Rattle.gtd_eval.specs.Membership.{InDomain}
use Rattle.gtd_picture.specs.Picture.{IsPicture}
use Rattle.gtd_picture.proofs.PictureFacts.{one_picture, picture_there, texts_ended}
use Rattle.gtd_picture.proofs.domain.put_seconds.Goals as goal

pub returns-in_err-put_picture-clause-puts : goal.returns-in_err-put_picture-clause-puts
returns-in_err-put_picture-clause-puts g c =
    let r = err_from_is_err_and c.from_residual-in_err-put_picture.result c.from_residual-in_err-put_picture.ensures.1 in
    let days = c.days_of_year in
    let taken = g.O.Output.taken in
    rw (r.1) (picture_there (InDomain c.args.domain.now) days.result (cursor_list c.in_ok-seconds.seconds) c.args.year
    c.in_ok-seconds.ensures.normal days.ensures.first days.ensures.next (Err r.0) (taken c.args.output.now)
    (taken c.put_picture.new.output) c.args.printer.now.progress c.put_picture.new.printer.progress c.args.title.now
    (codes "in the domain") (codes "not in the domain") c.in_err-put_picture.ensures.puts)

pub returns-clause-puts : goal.returns-clause-puts
returns-clause-puts g c =
    let set = InDomain c.args.domain.now in
    let days = c.days_of_year in
    let taken = g.O.Output.taken in
    let title = c.args.title.now in
    texts_ended (IsPicture set title (codes "in the domain") (codes "not in the domain") c.args.year) c.finish.result
    (taken c.args.output.now) (taken c.put_picture.new.output) (taken c.finish.new.output) c.args.printer.now.progress
    c.put_picture.new.printer.progress (one_picture set title (codes "in the domain") (codes "not in the domain") c.args.year)
    (picture_there set days.result (cursor_list c.in_ok-seconds.seconds) c.args.year c.in_ok-seconds.ensures.normal
    days.ensures.first days.ensures.next (Ok tt) (taken c.args.output.now) (taken c.put_picture.new.output)
    c.args.printer.now.progress c.put_picture.new.printer.progress title (codes "in the domain") (codes "not in the domain")
    c.in_ok-put_picture.ensures.puts)
    c.finish.ensures.bytes
