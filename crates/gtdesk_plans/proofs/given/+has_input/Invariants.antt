-- Each call has one file less to look at.
use Rattle.std.proofs.Common.{length}
use Rattle.gtdesk_plans.proofs.given.+has_input.Given as goal

abbrev pub decreases-has_input : goal.decreases-has_input
decreases-has_input l = length l.files.now
