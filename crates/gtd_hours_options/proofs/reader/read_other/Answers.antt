-- A text with times is read by these; one without has the fault that it has without options for times.
use Rattle.std.proofs.Common.{◌≡◌, ◌∙◌, false, refl, subst, sym}
use Rattle.gtd_hours_options.specs.First.{has_times}
use Rattle.gtd_hours_options.specs.Reading.{IsOtherStop, without}
use Rattle.gtd_hours_options.specs.Told.{stopped}
use Rattle.gtd_hours_options.proofs.ReadingFacts.{no_text, other_fault, other_stop, timed_hours}
use Rattle.gtd_hours_options.proofs.reader.read_other.Goals as goal

pub returns-in-Err-clause-fault : goal.returns-in-Err-clause-fault
returns-in-Err-clause-fault c =
    subst (IsOtherStop c.args.options.now c.args.text.now c.args.bad) (sym c.stopped.ensures)
    (other_stop c.args.options.now c.args.text.now c.args.bad (stopped c.in-Err.why)
    (no_text c.args.options.now c.args.text.now c.in-Err.why c.in-Err.ensures.fault))

pub returns-then-has_times-clause-hours : goal.returns-then-has_times-clause-hours
returns-then-has_times-clause-hours c =
    timed_hours c.args.options.now c.args.text.now c.args.bad c.in-Ok.moments c.read_times.result c.requires
    c.read_times.ensures.given c.read_times.ensures.hours

pub returns-then-has_times-clause-fault : goal.returns-then-has_times-clause-fault
returns-then-has_times-clause-fault c =
    other_fault c.args.options.now c.args.text.now c.args.bad c.read_times.result c.read_times.ensures.fault

pub returns-clause-fault : goal.returns-clause-fault
returns-clause-fault c =
    let none : has_times c.in-Ok.moments ≡ false = sym c.has_times.ensures ∙ c.if-has_times.false in
    without c.in-Ok.moments c.in-Ok.ensures.text none refl
