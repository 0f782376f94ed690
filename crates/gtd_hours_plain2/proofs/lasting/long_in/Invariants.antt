-- no part that was passed lasts too long
use Rattle.std.proofs.Common.{◌≡◌, ◌+◌, length}
use Rattle.gtd_hours_plain2.specs.Clocks.{clocks_of}
use Rattle.gtd_hours_plain2.specs.Lasting.{long_in}
use Rattle.gtd_hours_plain2.proofs.lasting.long_in.Given as goal

abbrev pub invariant-loop-part : goal.invariant-loop-part
invariant-loop-part l = record {
  long : long_in (clocks_of l.times) l.number l.rest ≡ long_in (clocks_of l.times) l.before l.parts;
  count : l.number + length l.rest ≡ l.before + length l.parts;
}

abbrev pub decreases-loop-part : goal.decreases-loop-part
decreases-loop-part l = length l.rest
