-- A range of a day is written by two times with the same minutes.
use Rattle.std.proofs.Common.{refl}
use Rattle.gtd_hours_moments.proofs.WrittenLemmas.{begin_minute, end_minute, ends_so, fits}
use Rattle.gtd_hours_moments.proofs.laws.ranges_are_written.Goals as goal

pub returns-clause-text : goal.returns-clause-text
returns-clause-text c = λ range. refl

pub returns-clause-fits : goal.returns-clause-fits
returns-clause-fits c = fits

pub returns-clause-begin : goal.returns-clause-begin
returns-clause-begin c = begin_minute

pub returns-clause-end : goal.returns-clause-end
returns-clause-end c = end_minute

pub returns-clause-lasts : goal.returns-clause-lasts
returns-clause-lasts c = ends_so
