-- The header comes before the lines of the questions: what fails in either leaves a first part of the whole text.
use Rattle.std.proofs.Common.{◌≡◌, refl, [], ◌∷◌}
use Rattle.std.specs.Prelude.{Ok, Err}
use Rattle.std.proofs.lemmas.Result.{err_from_is_err_and}
use Rattle.gtd_report.specs.Putting.{PutsText}
use Rattle.gtd_report.specs.facts.PutFacts.{one_put, one_short, puts_cut}
use Rattle.gtd_report.specs.facts.TextFacts.{Then, texts_as, texts_ended, texts_then}
use Rattle.gtd_ask.proofs.AnswerFacts.{header_then, one_header, one_text, then_header}
use Rattle.gtd_ask.specs.Answers.{AreAnswers, IsText, header_line}
use Rattle.gtd_ask.specs.Putting.{IsOnly}
use Rattle.gtd_ask.proofs.put.put_text.Goals as goal

pub returns-in_err-put_line-clause-puts : goal.returns-in_err-put_line-clause-puts
returns-in_err-put_line-clause-puts g c =
    let p = err_from_is_err_and c.from_residual-in_err-put_line.result c.from_residual-in_err-put_line.ensures.1 in
    let a = g.O.Output.taken c.args.output.now in
    let b = g.O.Output.taken c.put_line.new.output in
    let e = c.in_err-put_line.ensures in
    let before = c.args.printer.now.progress in
    let after = c.put_line.new.progress in
    let short = one_short p.0 header_line c.in_err-put_line.field-0.0.taken a b before after e.some.0 e.some.1 e.progress in
    rw (p.1) (λ lines is. rw (is.whole) (puts_cut p.0 a b before after (header_line ∷ []) is.rest short))

pub returns-in_err-put_answers-clause-puts : goal.returns-in_err-put_answers-clause-puts
returns-in_err-put_answers-clause-puts g c =
    let p = err_from_is_err_and c.from_residual-in_err-put_answers.result c.from_residual-in_err-put_answers.ensures.1 in
    let found = c.args.found.now in
    let questions = c.args.questions.now in
    let a = g.O.Output.taken c.args.output.now in
    let b = g.O.Output.taken c.put_line.new.output in
    let d = g.O.Output.taken c.put_answers.new.output in
    let e = c.in_ok-put_line.ensures in
    let before = c.args.printer.now.progress in
    let now = c.put_line.new.progress in
    let after = c.put_answers.new.printer.progress in
    let put : PutsText (IsOnly (λ line. line ≡ header_line)) (Ok tt) a b before now =
    (header_line ∷ [], (header_line, refl, refl), one_put header_line a b before now e.all e.progress) in
    rw (p.1) (texts_as (Then (IsOnly (λ line. line ≡ header_line)) (AreAnswers found questions)) (IsText found questions)
    (Err p.0) a d before after (header_then found questions) (then_header found questions)
    (texts_then (IsOnly (λ line. line ≡ header_line)) (AreAnswers found questions) (Err p.0) a b d before now after
    one_header put c.in_err-put_answers.ensures.puts))

pub returns-clause-puts : goal.returns-clause-puts
returns-clause-puts g c =
    let found = c.args.found.now in
    let questions = c.args.questions.now in
    let a = g.O.Output.taken c.args.output.now in
    let b = g.O.Output.taken c.put_line.new.output in
    let d = g.O.Output.taken c.put_answers.new.output in
    let f = g.O.Output.taken c.finish.new.output in
    let e = c.in_ok-put_line.ensures in
    let before = c.args.printer.now.progress in
    let now = c.put_line.new.progress in
    let after = c.put_answers.new.printer.progress in
    let put : PutsText (IsOnly (λ line. line ≡ header_line)) (Ok tt) a b before now =
    (header_line ∷ [], (header_line, refl, refl), one_put header_line a b before now e.all e.progress) in
    texts_ended (IsText found questions) c.finish.result a d f before after (one_text found questions)
    (texts_as (Then (IsOnly (λ line. line ≡ header_line)) (AreAnswers found questions)) (IsText found questions) (Ok tt)
    a d before after (header_then found questions) (then_header found questions)
    (texts_then (IsOnly (λ line. line ≡ header_line)) (AreAnswers found questions) (Ok tt) a b d before now after
    one_header put c.in_ok-put_answers.ensures.puts))
    c.finish.ensures.bytes
