-- A byte with which no token begins, behind bytes that have been read as tokens, is the first fault.
use Rattle.std.proofs.Common.{refl}
use Rattle.gtd_hours_tokens.specs.facts.WholeText.{fault_read}
use Rattle.gtd_hours_grammar.specs.Faults.{IsFirstFault}
use Rattle.gtd_hours_grammar.proofs.reading.token_behind.Goals as goal

pub returns-in-Err-clause-fault : goal.returns-in-Err-clause-fault
returns-in-Err-clause-fault c = rw (c.bad_token.ensures) (IsFirstFault.bad_token refl
    (fault_read c.args.text.now c.args.place c.in-Err.bad.place c.requires.read c.in-Err.ensures.next))
