-- What two answers about the same domains say excludes any difference between the answers.
use Rattle.gtd_difference.proofs.Parts.{one-comparison}
use Rattle.gtd_difference.proofs.laws.one_comparison.Goals as goal

pub returns : goal.returns
returns c = record { only = one-comparison }
