-- Two lists of tokens of a text are the same, two first faults are the same, and a text never has both.
use Rattle.std.proofs.Common.{length}
use Rattle.gtd_hours_tokens.specs.facts.WholeText.{one_list, one_fault, apart}
use Rattle.gtd_hours_tokens.proofs.laws.one_reading.Goals as goal

pub returns-clause-tokens : goal.returns-clause-tokens
returns-clause-tokens c = λ text one other h k. one_list text 0 one other (length text) h k

pub returns-clause-fault : goal.returns-clause-fault
returns-clause-fault c = one_fault

pub returns-clause-apart : goal.returns-clause-apart
returns-clause-apart c = apart
