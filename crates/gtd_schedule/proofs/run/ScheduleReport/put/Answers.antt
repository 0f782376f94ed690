-- The header and the elements' lines put in a row are the text; a failure in either leaves a first part of it.
use Rattle.std.proofs.Common.{refl, arith, [], ◌∷◌}
use Rattle.std.specs.Prelude.{Ok, Err}
use Rattle.std.proofs.lemmas.Result.{err_from_is_err_and}
use Rattle.gtd_report.specs.facts.ElementFacts.{IsHeader, few_elements, one_by_element, one_header, text_lines, text_parts}
use Rattle.gtd_report.specs.facts.PutFacts.{one_put, one_short, puts_cut}
use Rattle.gtd_report.specs.facts.TextFacts.{Then, texts_as, texts_ended, texts_then}
use Rattle.gtd_report.specs.Putting.{AreLinesOf, IsByElement, PutsText}
use Rattle.gtd_schedule.proofs.ScheduleFacts.{one_lines}
use Rattle.gtd_schedule.specs.Schedule.{AreLines, header_line}
use Rattle.gtd_schedule.specs.facts.SpansShown.{first_shown}
use Rattle.gtd_schedule.proofs.run.ScheduleReport.put.Goals as goal

pub returns-in_err-put_line-clause-puts : goal.returns-in_err-put_line-clause-puts
returns-in_err-put_line-clause-puts g c =
    let p = err_from_is_err_and c.from_residual-in_err-put_line.result c.from_residual-in_err-put_line.ensures.1 in
    let a = g.O.Output.taken c.args.output.now in
    let b = g.O.Output.taken c.put_line.new.output in
    let e = c.in_err-put_line.ensures in
    let before = c.args.printer.now.progress in
    let after = c.put_line.new.progress in
    let first = header_line in
    let short = one_short p.0 first c.in_err-put_line.field-0.0.taken a b before after e.some.0 e.some.1 e.progress in
    rw (p.1) (λ lines is. rw (is.whole) (puts_cut p.0 a b before after (first ∷ []) is.rest short))

pub returns-in_err-put_elements-clause-puts : goal.returns-in_err-put_elements-clause-puts
returns-in_err-put_elements-clause-puts g c =
    let p = err_from_is_err_and c.from_residual-in_err-put_elements.result c.from_residual-in_err-put_elements.ensures.1 in
    let found = c.args.found.now in
    let named = c.elements-elements.ensures.named in
    let each = AreLines found c.args.self.now.vehicle c.args.self.now.horizon in
    let elements = c.elements-elements.result.now in
    let first = header_line in
    let rest = AreLinesOf each elements in
    let a = g.O.Output.taken c.args.output.now in
    let b = g.O.Output.taken c.put_line.new.output in
    let d = g.O.Output.taken c.put_elements.new.output in
    let e = c.in_ok-put_line.ensures in
    let before = c.args.printer.now.progress in
    let now = c.put_line.new.progress in
    let after = c.put_elements.new.printer.progress in
    let put : PutsText (IsHeader first) (Ok tt) a b before now =
    (first ∷ [], refl, one_put first a b before now e.all e.progress) in
    rw (p.1) (texts_as (Then (IsHeader first) rest) (IsByElement found first each) (Err p.0) a d before after
    (text_lines each found first elements named) (text_parts each found first elements named)
    (texts_then (IsHeader first) rest (Err p.0) a b d before now after
    (one_header first) put c.in_err-put_elements.ensures.puts))

pub returns-clause-puts : goal.returns-clause-puts
returns-clause-puts g c =
    let found = c.args.found.now in
    let named = c.elements-elements.ensures.named in
    let each = AreLines found c.args.self.now.vehicle c.args.self.now.horizon in
    let elements = c.elements-elements.result.now in
    let first = header_line in
    let rest = AreLinesOf each elements in
    let a = g.O.Output.taken c.args.output.now in
    let b = g.O.Output.taken c.put_line.new.output in
    let d = g.O.Output.taken c.put_elements.new.output in
    let f = g.O.Output.taken c.finish.new.output in
    let e = c.in_ok-put_line.ensures in
    let before = c.args.printer.now.progress in
    let now = c.put_line.new.progress in
    let after = c.put_elements.new.printer.progress in
    let put : PutsText (IsHeader first) (Ok tt) a b before now =
    (first ∷ [], refl, one_put first a b before now e.all e.progress) in
    texts_ended (IsByElement found first each) c.finish.result a d f before after
    (one_by_element each (one_lines found c.args.self.now.vehicle c.args.self.now.horizon) found first)
    (texts_as (Then (IsHeader first) rest) (IsByElement found first each) (Ok tt) a d before after
    (text_lines each found first elements named) (text_parts each found first elements named)
    (texts_then (IsHeader first) rest (Ok tt) a b d before now after (one_header first) put
    c.in_ok-put_elements.ensures.puts))
    c.finish.ensures.bytes

pub of-first-requires : goal.of-first-requires
of-first-requires g c = record { day = rw (c.from.ensures.value) (first_shown c.args.self.now.horizon) }

-- there are no more elements than rows
pub put_elements-requires-clause-few : goal.put_elements-requires-clause-few
put_elements-requires-clause-few g c =
    let few = few_elements c.args.found.now c.elements-elements.result.now c.elements-elements.ensures.named in
    omega (arith, few, c.requires.few)
