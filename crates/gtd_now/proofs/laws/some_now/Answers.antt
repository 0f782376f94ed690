-- A file has a text for each query: each entry has a state at a second that a horizon may have.
use Rattle.gtd_now.proofs.NowFacts.{some_now}
use Rattle.gtd_now.proofs.laws.some_now.Goals as goal

pub returns : goal.returns
returns c = record { some = some_now }
