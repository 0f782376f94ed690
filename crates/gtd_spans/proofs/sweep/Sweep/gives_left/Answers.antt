-- A sweep over two sides hands out what its merge does.
use Rattle.gtd_spans.proofs.sweep.Sweep.gives_left.Goals as goal

pub returns-in-Both-clause-gives : goal.returns-in-Both-clause-gives
returns-in-Both-clause-gives c = rw c.in-Both.is c.gives_left.ensures.gives
