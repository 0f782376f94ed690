-- A text decides its pieces: two lists of pieces that it is made of are the same.
use Rattle.gtd_hours_grammar.specs.facts.OneReading.{one_reading}
use Rattle.gtd_hours_grammar.proofs.laws.one_reading.Goals as goal

pub returns : goal.returns
returns c = one_reading
