-- The run stops at the first fault of the questions, before the records are read; otherwise it answers by both.
use Rattle.std.proofs.Common.{◌∙◌, sym}
use Rattle.std.specs.Prelude.{IfSome, Ok}
use Rattle.gtd_records.specs.declared.fault.RecordFault.TheVariants as records
use Rattle.gtd_report.specs.declared.fault.RunFault.TheVariants as run
use Rattle.gtd_ask.specs.declared.fault.QuestionFault.TheVariants as question
use Rattle.gtd_ask.proofs.AskFacts.{answered_run, asking_run, ended_run, headline_none, headline_run, is_err, kept_run, not_asked}
use Rattle.gtd_ask.proofs.AskFacts.{read_run, write_run}
use Rattle.gtd_ask.specs.Questions.{IsFile}
use Rattle.gtd_ask.proofs.run.run_ask.Goals as goal

pub returns-in-Err-clause-headline : goal.returns-in-Err-clause-headline
returns-in-Err-clause-headline g c = λ asked read wrote.
    headline_none _ _ _ c.in-Err.why _ (sym c.in-Err.ensures.failures ∙ asked) c.in-Err.ensures.file

pub returns-clause-headline : goal.returns-clause-headline
returns-clause-headline g c = λ asked read wrote.
    let file : IfSome _ (λ bytes. IsFile bytes (Ok c.as_slice.result.now)) = rw (c.as_slice.ensures.value) c.in-Ok.ensures.file in
    rw (c.answer_for.ensures.value) (headline_run c.as_slice.result.now _ _ _ _ c.run_report.result
    file (c.run_report.ensures.accepted tt tt read wrote) (c.run_report.ensures.refused tt tt read wrote))

pub returns-clause-stands : goal.returns-clause-stands
returns-clause-stands g c =
    let file : IfSome _ (λ bytes. IsFile bytes (Ok c.as_slice.result.now)) = rw (c.as_slice.ensures.value) c.in-Ok.ensures.file in
    rw (c.answer_for.ensures.value) (answered_run c.as_slice.result.now _ _ _ _ c.run_report.result
    file c.run_report.ensures.stands)

pub returns-clause-kept : goal.returns-clause-kept
returns-clause-kept g c =
    rw (c.answer_for.ensures.value) (kept_run c.as_slice.result.now _ _ _ c.run_report.result c.run_report.ensures.stands)

pub returns-clause-ended : goal.returns-clause-ended
returns-clause-ended g c = rw (c.answer_for.ensures.value) (ended_run c.run_report.result _ c.run_report.ensures.ended)

pub returns-clause-vehicle : goal.returns-clause-vehicle
returns-clause-vehicle g c =
    rw (c.answer_for.ensures.value) (λ e. c.run_report.ensures.vehicle.0 (is_err c.run_report.result run.VehicleRange e) tt)

pub returns-clause-year : goal.returns-clause-year
returns-clause-year g c =
    rw (c.answer_for.ensures.value) (λ e. (c.run_report.ensures.year.0 (is_err c.run_report.result run.YearRange e)).1 tt)

pub returns-clause-element : goal.returns-clause-element
returns-clause-element g c =
    rw (c.answer_for.ensures.value) (λ e. (c.run_report.ensures.element (is_err c.run_report.result run.NoElement e)).1 tt)

pub returns-clause-questions_endless : goal.returns-clause-questions_endless
returns-clause-questions_endless g c =
    rw (c.answer_for.ensures.value) (λ e. absurd (not_asked c.run_report.result question.Endless e))

pub returns-clause-records_endless : goal.returns-clause-records_endless
returns-clause-records_endless g c =
    rw (c.answer_for.ensures.value)
    (λ e. c.run_report.ensures.endless (is_err c.run_report.result (run.Records records.Endless) e))

pub returns-clause-questions_faults : goal.returns-clause-questions_faults
returns-clause-questions_faults g c =
    rw (c.answer_for.ensures.value) (c.in-Ok.ensures.failures ∙ sym (asking_run c.run_report.result _))

pub returns-clause-records_faults : goal.returns-clause-records_faults
returns-clause-records_faults g c =
    rw (c.answer_for.ensures.value) (c.run_report.ensures.read_faults ∙ sym (read_run c.run_report.result _))

pub returns-clause-write_faults : goal.returns-clause-write_faults
returns-clause-write_faults g c =
    rw (c.answer_for.ensures.value) (c.run_report.ensures.write_faults ∙ sym (write_run c.run_report.result _))
