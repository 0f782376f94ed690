-- A sweep over two sides needs what its merge does.
use Rattle.gtd_spans.proofs.sweep.Sweep.needs_right_from.Goals as goal

pub returns-in-Both : goal.returns-in-Both
returns-in-Both c = record { needs = rw c.in-Both.is c.needs_right_from.ensures.needs }
