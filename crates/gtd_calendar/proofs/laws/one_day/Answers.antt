-- The fields that are computed are the day's, and any other fields of that day equal them.
use Rattle.gtd_calendar.specs.facts.FieldLemmas.{fields-are, fields-only}
use Rattle.gtd_calendar.proofs.laws.one_day.Goals as goal

pub returns-clause-has : goal.returns-clause-has
returns-clause-has c = fields-are

pub returns-clause-only : goal.returns-clause-only
returns-clause-only c = fields-only
