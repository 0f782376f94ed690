-- no rule that was passed lasts too long
use Rattle.std.proofs.Common.{◌≡◌, length}
use Rattle.gtd_hours_plain2.specs.Clocks.{clocks_of}
use Rattle.gtd_hours_plain2.specs.Lasting.{first_long, long_from}
use Rattle.gtd_hours_plain2.proofs.lasting.first_long.Given as goal

abbrev pub invariant-loop-rule : goal.invariant-loop-rule
invariant-loop-rule l = long_from (clocks_of l.times) l.before l.rest ≡ first_long (clocks_of l.times) l.rules

abbrev pub decreases-loop-rule : goal.decreases-loop-rule
decreases-loop-rule l = length l.rest
