-- Each call passes one end of a month and so has one fewer to pass.
use Rattle.gtd_ends.proofs.date.+days_on.Given as goal

abbrev pub decreases-days_on : goal.decreases-days_on
decreases-days_on l = l.ends
