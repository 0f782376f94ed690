-- Two lists of tokens of a text are the same, two first faults are the same, and a text never has both.
use Rattle.gtd_hours_times.proofs.TokenLemmas.{apart, one_fault, one_list}
use Rattle.gtd_hours_times.proofs.laws.one_reading.Goals as goal

pub returns-clause-tokens : goal.returns-clause-tokens
returns-clause-tokens c = one_list

pub returns-clause-fault : goal.returns-clause-fault
returns-clause-fault c = one_fault

pub returns-clause-apart : goal.returns-clause-apart
returns-clause-apart c = apart
