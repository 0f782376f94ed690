-- Stretches move along with their starts by 400 years, forwards and back.
use Rattle.gtd_recur.specs.facts.CycleLemmas.{in_stretches-forward, in_stretches-back}
use Rattle.gtd_recur.proofs.laws.domains_repeat.Goals as goal

pub returns : goal.returns
returns c = record { repeats = λ p q s none. (in_stretches-forward p q s none, in_stretches-back p q s none) }
