-- The bound of the walk, read for one that begins at the first day of the window.
use Rattle.gtd_recur.proofs.starts.Starts.ticks.Goals as goal

pub returns-clause-at_most : goal.returns-clause-at_most
returns-clause-at_most c = rw (← c.args.self.now.whole) c.ticks.ensures.at_most
