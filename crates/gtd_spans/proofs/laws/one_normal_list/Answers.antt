-- Two normal lists of the same set between the same bounds are equal, from the lemma about all sets.
use Rattle.gtd_spans.specs.facts.NormalFor.{one-normal-list}
use Rattle.gtd_spans.proofs.laws.one_normal_list.Goals as goal

pub returns : goal.returns
returns g c = record { one = one-normal-list g.S.SecondSet.contains }
