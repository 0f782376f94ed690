-- A text that is read strictly has no strict form of its own.
use Rattle.gtd_hours_known.proofs.ReadingFacts.{strict_reading}
use Rattle.gtd_hours_known.proofs.manner.read_known_hours_in.Goals as goal

pub returns-in-Strict-clause-hours : goal.returns-in-Strict-clause-hours
returns-in-Strict-clause-hours c =
    rw c.in-Strict.is (strict_reading c.args.known.now c.args.text.now c.read_known_hours.result c.read_known_hours.ensures.hours
    c.read_known_hours.ensures.form)
