-- A text that is read strictly has no strict form of its own.
use Rattle.gtd_hours_options.proofs.MannerFacts.{strict_reading}
use Rattle.gtd_hours_options.proofs.manner.read_hours_with_in.Goals as goal

pub returns-in-Strict-clause-hours : goal.returns-in-Strict-clause-hours
returns-in-Strict-clause-hours c =
    rw c.in-Strict.is (strict_reading c.args.options.now c.args.text.now c.read_hours_with.result
    c.read_hours_with.ensures.hours c.read_hours_with.ensures.form)
