-- A crowded element leaves the output empty, and any other gets the picture of its open seconds.
use Rattle.std.proofs.Common.{rules}
use Rattle.std.specs.Prelude.{Ok, Err, codes}
use Rattle.std.proofs.lemmas.Result.{err_from_is_err_and}
use Rattle.gtd_eval.specs.Cursors.{cursor_list}
use Rattle.gtd_records.specs.Closing.{IsOpen}
use Rattle.gtd_report.specs.facts.PutFacts.{puts_nothing}
use Rattle.gtd_picture.specs.Crowded.{IsSeen}
use Rattle.gtd_picture.specs.Picture.{IsPicture}
use Rattle.gtd_picture.proofs.CrowdFacts.{none_seen, one_seen, text_seen}
use Rattle.gtd_picture.proofs.PictureFacts.{one_picture, picture_there, texts_ended}
use Rattle.gtd_picture.proofs.run.YearPictureReport.put.Goals as goal

pub returns-then-branch-clause-puts : goal.returns-then-branch-clause-puts
returns-then-branch-clause-puts g c =
    let it = c.args.self.now in
    let set = IsOpen c.args.found.now it.element it.direction it.vehicle in
    let taken = g.O.Output.taken in
    let kind = IsPicture set it.title.now (codes "open") (codes "closed") it.year in
    texts_ended (IsSeen set it.year kind) c.finish.result (taken c.args.output.now) (taken c.args.output.now)
    (taken c.finish.new.output) c.args.printer.now.progress c.args.printer.now.progress
    (one_seen set it.year kind (one_picture set it.title.now (codes "open") (codes "closed") it.year))
    (none_seen set it.year kind (c.in_ok-is_open_crowded.ensures.crowded.0 (search rules)) (taken c.args.output.now)
    c.args.printer.now.progress) c.finish.ensures.bytes

pub returns-in_err-open-clause-puts : goal.returns-in_err-open-clause-puts
returns-in_err-open-clause-puts g c =
    let r = err_from_is_err_and c.from_residual-in_err-open.result c.from_residual-in_err-open.ensures.1 in
    rw (r.1) (λ lines is. puts_nothing r.0 (g.O.Output.taken c.args.output.now) c.args.printer.now.progress lines)

pub returns-in_err-put_picture-clause-puts : goal.returns-in_err-put_picture-clause-puts
returns-in_err-put_picture-clause-puts g c =
    let r = err_from_is_err_and c.from_residual-in_err-put_picture.result c.from_residual-in_err-put_picture.ensures.1 in
    let it = c.args.self.now in
    let set = IsOpen c.args.found.now it.element it.direction it.vehicle in
    let kind = IsPicture set it.title.now (codes "open") (codes "closed") it.year in
    let days = c.days_of_year in
    let taken = g.O.Output.taken in
    rw (r.1) (text_seen set it.year kind
    (λ crowded. let k = c.in_ok-is_open_crowded.ensures.crowded.1 crowded in search (rules, k))
    (Err r.0) (taken c.args.output.now) (taken c.put_picture.new.output) c.args.printer.now.progress
    c.put_picture.new.printer.progress
    (picture_there set days.result (cursor_list c.in_ok-open.open) it.year c.in_ok-open.ensures.seconds
    days.ensures.first days.ensures.next (Err r.0) (taken c.args.output.now) (taken c.put_picture.new.output)
    c.args.printer.now.progress c.put_picture.new.printer.progress it.title.now (codes "open") (codes "closed")
    c.in_err-put_picture.ensures.puts))

pub returns-clause-puts : goal.returns-clause-puts
returns-clause-puts g c =
    let it = c.args.self.now in
    let set = IsOpen c.args.found.now it.element it.direction it.vehicle in
    let days = c.days_of_year in
    let taken = g.O.Output.taken in
    let title = it.title.now in
    let kind = IsPicture set title (codes "open") (codes "closed") it.year in
    text_seen set it.year kind (λ crowded. let k = c.in_ok-is_open_crowded.ensures.crowded.1 crowded in search (rules, k))
    c.finish-2.result (taken c.args.output.now) (taken c.finish-2.new.output) c.args.printer.now.progress
    c.put_picture.new.printer.progress
    (texts_ended kind c.finish-2.result
    (taken c.args.output.now) (taken c.put_picture.new.output) (taken c.finish-2.new.output) c.args.printer.now.progress
    c.put_picture.new.printer.progress (one_picture set title (codes "open") (codes "closed") it.year)
    (picture_there set days.result (cursor_list c.in_ok-open.open) it.year c.in_ok-open.ensures.seconds
    days.ensures.first days.ensures.next (Ok tt) (taken c.args.output.now) (taken c.put_picture.new.output)
    c.args.printer.now.progress c.put_picture.new.printer.progress title (codes "open") (codes "closed")
    c.in_ok-put_picture.ensures.puts)
    c.finish-2.ensures.bytes)
