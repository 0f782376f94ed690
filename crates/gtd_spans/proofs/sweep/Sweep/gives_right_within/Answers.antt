-- A sweep over two sides hands out what its merge does.
use Rattle.gtd_spans.proofs.sweep.Sweep.gives_right_within.Goals as goal

pub returns-in-Both : goal.returns-in-Both
returns-in-Both c = record { gives = rw c.in-Both.is c.gives_right_within.ensures.gives }
