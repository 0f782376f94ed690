-- Each call has one space less to append, until none is left.
use Rattle.gtd_now.proofs.table.+push_spaces.Given as goal

abbrev pub decreases-push_spaces : goal.decreases-push_spaces
decreases-push_spaces l = l.count
