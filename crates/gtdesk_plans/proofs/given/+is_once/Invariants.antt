-- Each call has one file less, and what it says is of the files that are left.
use Rattle.std.proofs.Common.{length}
use Rattle.gtdesk_plans.proofs.given.+is_once.Given as goal

abbrev pub decreases-is_once : goal.decreases-is_once
decreases-is_once l = length l.files.now
