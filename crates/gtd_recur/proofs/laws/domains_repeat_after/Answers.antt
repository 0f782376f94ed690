-- Each of the periods keeps the fields that a start gives, and so moves stretches along with their starts.
use Rattle.gtd_recur.specs.facts.PeriodLemmas.{period-repeats}
use Rattle.gtd_recur.proofs.laws.domains_repeat_after.Goals as goal

pub returns : goal.returns
returns c = record { repeats = period-repeats }
