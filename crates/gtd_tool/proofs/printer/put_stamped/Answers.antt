-- A failure within the moment or behind it leaves a first part of the whole line.
use Rattle.std.proofs.lemmas.Result.{err_from_is_err_and}
use Rattle.gtd_tool.proofs.AnswerLemmas.{on_err}
use Rattle.gtd_tool.proofs.WritingLemmas.{part_front, part_then}
use Rattle.gtd_tool.proofs.printer.put_stamped.Goals as goal

pub returns-in_err-put-clause-part : goal.returns-in_err-put-clause-part
returns-in_err-put-clause-part g c =
    let p = err_from_is_err_and c.from_residual.result c.from_residual.ensures.1 in
    rw (p.1) (part_front _ _ _ _ c.in_err-put.ensures.part)

pub returns-clause-part : goal.returns-clause-part
returns-clause-part g c = on_err c.put_and_flush.result _ _ (part_then _ _ _ _ _ c.in_ok-put.ensures.whole)
    c.put_and_flush.ensures.part
