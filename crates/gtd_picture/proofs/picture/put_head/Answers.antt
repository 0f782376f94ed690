-- One line is put from nothing on, and it leaves room for the year's lines in the count of bytes.
use Rattle.std.proofs.Common.{◌≡◌, ◌∙◌, [], ◌∷◌}
use Rattle.std.specs.Prelude.{pos}
use Rattle.std.proofs.lemmas.Result.{err_from_is_err_and}
use Rattle.gtd_calendar.specs.Calendar.{year_length}
use Rattle.gtd_report.specs.facts.PutFacts.{one_put, one_short, puts_nothing}
use Rattle.gtd_picture.specs.Picture.{head_text}
use Rattle.gtd_picture.proofs.PictureFacts.{head_is}
use Rattle.gtd_picture.proofs.picture.put_head.Goals as goal

pub returns-in_err-write_head-clause-puts : goal.returns-in_err-write_head-clause-puts
returns-in_err-write_head-clause-puts g c =
    let r = err_from_is_err_and c.from_residual.result c.from_residual.ensures.1 in
    rw (r.1) (puts_nothing r.0 (g.O.Output.taken c.args.output.now) c.args.printer.now.progress
    (head_text c.args.caption.now.title.now c.args.caption.now.inside.now c.args.caption.now.outside.now (year_length (pos
    c.args.caption.now.year)) ∷ []))

pub returns-in_err-put_line-clause-puts : goal.returns-in_err-put_line-clause-puts
returns-in_err-put_line-clause-puts g c =
    let title = c.args.caption.now.title.now in
    let inside = c.args.caption.now.inside.now in
    let outside = c.args.caption.now.outside.now in
    let days = year_length (pos c.args.caption.now.year) in
    let head = head_text title inside outside days in
    let is : c.as_slice.result.now ≡ head = c.as_slice.ensures.value
    ∙ head_is _ _ _ title inside outside c.write_head.new.line.items _ days c.as_bytes.ensures.value c.as_bytes-2.ensures.value
    c.as_bytes-3.ensures.value c.length_of_year.ensures.value c.in_ok-write_head.ensures.head in
    let r = err_from_is_err_and c.from_residual-in_err-put_line.result c.from_residual-in_err-put_line.ensures.1 in
    let e = c.in_err-put_line.ensures in
    rw (r.1) (one_short r.0 head c.in_err-put_line.field-0.0.taken (g.O.Output.taken c.args.output.now)
    (g.O.Output.taken c.put_line.new.output) c.args.printer.now.progress c.put_line.new.progress (rw is at e.some.0) (rw is at
    e.some.1)
    e.progress)

pub returns-clause-puts : goal.returns-clause-puts
returns-clause-puts g c =
    let title = c.args.caption.now.title.now in
    let inside = c.args.caption.now.inside.now in
    let outside = c.args.caption.now.outside.now in
    let days = year_length (pos c.args.caption.now.year) in
    let head = head_text title inside outside days in
    let is : c.as_slice.result.now ≡ head = c.as_slice.ensures.value
    ∙ head_is _ _ _ title inside outside c.write_head.new.line.items _ days c.as_bytes.ensures.value c.as_bytes-2.ensures.value
    c.as_bytes-3.ensures.value c.length_of_year.ensures.value c.in_ok-write_head.ensures.head in
    let e = c.in_ok-put_line.ensures in
    one_put head (g.O.Output.taken c.args.output.now) (g.O.Output.taken c.put_line.new.output) c.args.printer.now.progress
    c.put_line.new.progress (rw is at e.all) (rw is at e.progress)
