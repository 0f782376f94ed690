-- Both laws are proved as lemmas about the computation of Easter, for all years of the definition.
use Rattle.gtd_hours_holidays.proofs.EasterFacts.{between, sunday}
use Rattle.gtd_hours_holidays.proofs.laws.easter_is_a_sunday.Goals as goal

pub returns-clause-sunday : goal.returns-clause-sunday
returns-clause-sunday c = sunday

pub returns-clause-between : goal.returns-clause-between
returns-clause-between c = between
