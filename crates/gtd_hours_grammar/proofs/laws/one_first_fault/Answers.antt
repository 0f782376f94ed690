-- Two first faults of a text are the same, and a text with a first fault is made of no pieces.
use Rattle.gtd_hours_grammar.specs.facts.FirstFault.{hours_or_fault, one_first_fault}
use Rattle.gtd_hours_grammar.proofs.laws.one_first_fault.Goals as goal

pub returns-clause-fault : goal.returns-clause-fault
returns-clause-fault c = one_first_fault

pub returns-clause-apart : goal.returns-clause-apart
returns-clause-apart c = hours_or_fault
