-- 400 years are whole weeks, and the calendar repeats after them, so all fields but the year are the same.
use Rattle.gtd_recur.specs.facts.CycleLemmas.{begins-cycle}
use Rattle.gtd_recur.proofs.laws.starts_repeat.Goals as goal

pub returns : goal.returns
returns c = record { repeats = begins-cycle }
