-- Two lists of what is told of a file are equal, and so are two lists of its lone codes.
use Rattle.gtd_warnings.proofs.OneAnswer.{one_lone, one_told}
use Rattle.gtd_warnings.proofs.laws.one_answer.Goals as goal

pub returns : goal.returns
returns c = record { told = one_told; lone = one_lone }
