-- The days of the longest horizon and lookback, and all seconds of each of them.
use Rattle.gtd_recur.specs.facts.BoundLemmas.{work_of-le}
use Rattle.gtd_recur.proofs.laws.work_is_bounded.Goals as goal

pub returns : goal.returns
returns c = record { most = work_of-le }
