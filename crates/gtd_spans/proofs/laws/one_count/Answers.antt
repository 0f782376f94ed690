-- Counting a set's seconds in a stretch twice gives the same number, from the lemma about all sets.
use Rattle.gtd_spans.specs.facts.CountFacts.{one-count}
use Rattle.gtd_spans.proofs.laws.one_count.Goals as goal

pub returns : goal.returns
returns g c = record { one = one-count g.S.SecondSet.contains }
