-- A month and a day that each year has begin in each year on the date of the end.
use Rattle.gtd_hours_selectors.proofs.MovingLemmas.{date-starts}
use Rattle.gtd_hours_selectors.proofs.places.date_parts.Goals as goal

pub returns-clause-on : goal.returns-clause-on
returns-clause-on c n = date-starts c.args.date n c.requires
