-- Two answers for the same bytes have the same faults or rows, since a text has one first fault or one meaning.
use Rattle.gtd_hours_file.proofs.OneAnswer as proof
use Rattle.gtd_hours_file.proofs.laws.one_answer.Goals as goal

pub returns-clause-answer : goal.returns-clause-answer
returns-clause-answer c how = proof.one_answer how (c.one_way.ensures.all how)

pub returns-clause-restrictions : goal.returns-clause-restrictions
returns-clause-restrictions c = proof.same_translation
