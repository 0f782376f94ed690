-- Two answers for the same bytes are equal: each column has one reading, so each row and each table has one.
use Rattle.gtd_records.specs.facts.OneAnswer.{one_file}
use Rattle.gtd_records.proofs.laws.one_answer.Goals as goal

pub returns : goal.returns
returns c = record { one = one_file }
