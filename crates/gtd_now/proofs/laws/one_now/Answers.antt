-- Two texts of one file for the same query are equal, entry by entry.
use Rattle.gtd_now.proofs.NowFacts.{one_now}
use Rattle.gtd_now.proofs.laws.one_now.Goals as goal

pub returns : goal.returns
returns c = record { one = one_now }
