-- One line more is put, which is short enough to be counted; a refusal before it puts nothing.
use Rattle.std.proofs.Common.{◌≡◌, ◌∙◌, ap, arith, [], ◌∷◌, length}
use Rattle.std.specs.Prelude.{pos}
use Rattle.std.proofs.lemmas.Result.{err_from_is_err_and}
use Rattle.gtd_report.specs.facts.PutFacts.{one_put, one_short, puts_nothing}
use Rattle.gtd_picture.specs.Picture.{foot_text}
use Rattle.gtd_picture.proofs.TextFacts.{foot_short}
use Rattle.gtd_picture.proofs.picture.put_foot.Goals as goal

pub returns-in_err-write_foot-clause-puts : goal.returns-in_err-write_foot-clause-puts
returns-in_err-write_foot-clause-puts g c =
    let r = err_from_is_err_and c.from_residual.result c.from_residual.ensures.1 in
    rw (r.1) (puts_nothing r.0 (g.O.Output.taken c.args.output.now) c.args.printer.now.progress (foot_text (pos c.args.year) ∷
    []))

pub put_line-requires-clause-written : goal.put_line-requires-clause-written
put_line-requires-clause-written g c =
    let short = foot_short (pos c.args.year) in
    let long = ap length (c.as_slice.ensures.value ∙ c.in_ok-write_foot.ensures.foot) in
    let room = c.requires.small in
    omega (arith, short, long, room)

pub returns-in_err-put_line-clause-puts : goal.returns-in_err-put_line-clause-puts
returns-in_err-put_line-clause-puts g c =
    let foot = foot_text (pos c.args.year) in
    let is : c.as_slice.result.now ≡ foot = c.as_slice.ensures.value ∙ c.in_ok-write_foot.ensures.foot in
    let r = err_from_is_err_and c.from_residual-in_err-put_line.result c.from_residual-in_err-put_line.ensures.1 in
    let e = c.in_err-put_line.ensures in
    rw (r.1) (one_short r.0 foot c.in_err-put_line.field-0.0.taken (g.O.Output.taken c.args.output.now)
    (g.O.Output.taken c.put_line.new.output) c.args.printer.now.progress c.put_line.new.progress (rw is at e.some.0) (rw is at
    e.some.1)
    e.progress)

pub returns-clause-puts : goal.returns-clause-puts
returns-clause-puts g c =
    let foot = foot_text (pos c.args.year) in
    let is : c.as_slice.result.now ≡ foot = c.as_slice.ensures.value ∙ c.in_ok-write_foot.ensures.foot in
    let e = c.in_ok-put_line.ensures in
    one_put foot (g.O.Output.taken c.args.output.now) (g.O.Output.taken c.put_line.new.output) c.args.printer.now.progress
    c.put_line.new.progress (rw is at e.all) (rw is at e.progress)
