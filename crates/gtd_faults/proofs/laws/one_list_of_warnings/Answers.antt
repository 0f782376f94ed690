-- Two texts of warnings of a file are equal, since what is told of a row has one answer.
use Rattle.gtd_faults.proofs.OneList.{one_list}
use Rattle.gtd_faults.proofs.laws.one_list_of_warnings.Goals as goal

pub returns : goal.returns
returns c = record { one = one_list c.one_answer.ensures.told c.one_answer.ensures.lone }
