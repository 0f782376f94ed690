-- A text is one list of tokens, of which all the rest is computed.
use Rattle.gtd_hours_holiday_rules.specs.Parts.{parts_of}
use Rattle.gtd_hours_holiday_rules.proofs.OneText as proof
use Rattle.gtd_hours_holiday_rules.proofs.RulePlaces.{places}
use Rattle.gtd_hours_holiday_rules.proofs.laws.one_holiday_text.Goals as goal

pub returns-clause-checked : goal.returns-clause-checked
returns-clause-checked c = proof.one_checked c.one_moving_front.ensures c.one_reading.ensures.tokens

pub returns-clause-rules : goal.returns-clause-rules
returns-clause-rules c = proof.one_rules c.one_moving_front.ensures c.one_reading.ensures.tokens

pub returns-clause-told : goal.returns-clause-told
returns-clause-told c = proof.one_told c.one_moving_front.ensures c.one_reading.ensures.tokens

pub returns-clause-whole_days : goal.returns-clause-whole_days
returns-clause-whole_days c = proof.one_whole_days c.one_moving_front.ensures c.one_reading.ensures.tokens

pub returns-clause-length : goal.returns-clause-length
returns-clause-length c = λ text read p. proof.same_length text (parts_of p.has.items) read p.has.has

pub returns-clause-places : goal.returns-clause-places
returns-clause-places c = λ text read p. places text (parts_of p.has.items) read p.has.has

pub returns-clause-apart : goal.returns-clause-apart
returns-clause-apart c = proof.no_fault c.one_reading.ensures.apart
