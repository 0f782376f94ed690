-- A set whose membership can be told has a normal list, which is built second by second.
use Rattle.gtd_spans.specs.facts.SomeList.{some-normal-list}
use Rattle.gtd_spans.proofs.laws.some_normal_list.Goals as goal

pub returns : goal.returns
returns g c = record { some = some-normal-list g.S.SecondSet.contains }
