-- The old file's first fault comes before the new one is read; two accepted files have the text of the form asked for.
use Rattle.std.proofs.Common.{◌∙◌, sym}
use Rattle.gtd_records.specs.contracts.index.Records.{the_row as row}
use Rattle.gtd_records.specs.declared.fault.RecordFault.TheVariants as records
use Rattle.gtd_report.specs.declared.fault.RunFault.TheVariants as run
use Rattle.gtd_changes.proofs.AnswerFacts.{compared_old, compared_run, ended_run, err_of, headline_old, headline_run, is_err}
use Rattle.gtd_changes.proofs.AnswerFacts.{kept_run, new_run, not_old, old_run, write_run}
use Rattle.gtd_changes.proofs.run.run_changes_in.Goals as goal

pub returns-in-Err-clause-headline : goal.returns-in-Err-clause-headline
returns-in-Err-clause-headline g c = λ vehicle was_read new_read wrote.
    headline_old row.Denot _ _ _ _ _ _ c.in-Err.why _ (sym c.in-Err.ensures.failures ∙ was_read) c.in-Err.ensures.file

pub returns-in-Err-clause-stands : goal.returns-in-Err-clause-stands
returns-in-Err-clause-stands g c =
    compared_old c.args.asked.form c.args.asked.vehicle c.args.asked.horizon (g.I.Input.to_come c.args.old.now)
    (g.J.Input.to_come c.args.new.now)
    (g.O.Output.taken c.args.output.now) c.in-Err.why c.in-Err.ensures.file

pub returns-clause-headline : goal.returns-clause-headline
returns-clause-headline g c = λ vehicle was_read new_read wrote.
    rw (c.answer_for.ensures.value)
    (headline_run c.args.asked.form c.args.asked.vehicle c.args.asked.horizon c.in-Ok.records _ _ _ _ c.run_report.result
    c.in-Ok.ensures.file (c.run_report.ensures.accepted vehicle tt new_read wrote)
    (c.run_report.ensures.refused vehicle tt new_read wrote))

pub returns-clause-stands : goal.returns-clause-stands
returns-clause-stands g c =
    rw (c.answer_for.ensures.value)
    (compared_run c.args.asked.form c.args.asked.vehicle c.args.asked.horizon c.in-Ok.records _ _ _ _ c.run_report.result
    c.in-Ok.ensures.file c.run_report.ensures.stands)

pub returns-clause-kept : goal.returns-clause-kept
returns-clause-kept g c =
    rw (c.answer_for.ensures.value)
    (kept_run c.args.asked.form c.args.asked.vehicle c.args.asked.horizon c.in-Ok.records _ _ _ c.run_report.result
    c.run_report.ensures.stands)

pub returns-clause-ended : goal.returns-clause-ended
returns-clause-ended g c = rw (c.answer_for.ensures.value) (ended_run c.run_report.result _ c.run_report.ensures.ended)

pub returns-clause-vehicle : goal.returns-clause-vehicle
returns-clause-vehicle g c =
    rw (c.answer_for.ensures.value) (
      (λ e. c.run_report.ensures.vehicle.0 (is_err c.run_report.result run.VehicleRange e)),
      (λ never. err_of c.run_report.result run.VehicleRange (c.run_report.ensures.vehicle.1 never)),
    )

pub returns-clause-year : goal.returns-clause-year
returns-clause-year g c =
    rw (c.answer_for.ensures.value) (λ e. (c.run_report.ensures.year.0 (is_err c.run_report.result run.YearRange e)).1 tt)

pub returns-clause-element : goal.returns-clause-element
returns-clause-element g c =
    rw (c.answer_for.ensures.value) (λ e. (c.run_report.ensures.element (is_err c.run_report.result run.NoElement e)).1 tt)

pub returns-clause-old_endless : goal.returns-clause-old_endless
returns-clause-old_endless g c =
    rw (c.answer_for.ensures.value) (λ e. absurd (not_old c.run_report.result records.Endless e))

pub returns-clause-new_endless : goal.returns-clause-new_endless
returns-clause-new_endless g c =
    rw (c.answer_for.ensures.value) (λ e. c.run_report.ensures.endless (is_err c.run_report.result
    (run.Records records.Endless) e))

pub returns-clause-old_faults : goal.returns-clause-old_faults
returns-clause-old_faults g c =
    rw (c.answer_for.ensures.value) (c.in-Ok.ensures.failures ∙ sym (old_run c.run_report.result _))

pub returns-clause-new_faults : goal.returns-clause-new_faults
returns-clause-new_faults g c =
    rw (c.answer_for.ensures.value) (c.run_report.ensures.read_faults ∙ sym (new_run c.run_report.result _))

pub returns-clause-write_faults : goal.returns-clause-write_faults
returns-clause-write_faults g c =
    rw (c.answer_for.ensures.value) (c.run_report.ensures.write_faults ∙ sym (write_run c.run_report.result _))
