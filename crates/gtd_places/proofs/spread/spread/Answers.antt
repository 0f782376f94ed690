-- Gathering and settling, one after the other, change the order alone, as each of them does.
use Rattle.std.proofs.lemmas.List.Sorted.{IsPermutation-trans}
use Rattle.gtd_places.proofs.spread.spread.Goals as goal

pub returns-clause-moved : goal.returns-clause-moved
returns-clause-moved c = IsPermutation-trans _ _ _ c.gather.ensures.moved c.settle.ensures.moved
