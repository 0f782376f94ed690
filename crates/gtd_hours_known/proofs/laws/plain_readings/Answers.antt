-- Plain hours are read as such, and hours without a first holiday ask for nothing that is known.
use Rattle.gtd_hours_known.proofs.PlainReadings.{as_plain, only_plain, same_reading}
use Rattle.gtd_hours_known.proofs.laws.plain_readings.Goals as goal

pub returns-clause-plain : goal.returns-clause-plain
returns-clause-plain c = as_plain

pub returns-clause-only : goal.returns-clause-only
returns-clause-only c = only_plain

pub returns-clause-needless : goal.returns-clause-needless
returns-clause-needless c = same_reading
