-- Form by form, what is not needed is given, and what is not too long lasts a day at most.
use Rattle.gtd_hours_moments.proofs.DailyLemmas.{all_daily, none_needed}
use Rattle.gtd_hours_moments.proofs.laws.forms_are_ranges.Goals as goal

pub returns-clause-daily : goal.returns-clause-daily
returns-clause-daily c = all_daily

pub returns-clause-plain : goal.returns-clause-plain
returns-clause-plain c = none_needed
