-- All is given for the holidays that were passed, and for the kinds that are seen.
use Rattle.std.proofs.Common.{◌≡◌, length}
use Rattle.gtd_hours_known.specs.Given.{AreSeen, none_given}
use Rattle.gtd_hours_known.proofs.given.none_given.Given as goal

abbrev pub invariant-loop-holiday : goal.invariant-loop-holiday
invariant-loop-holiday l = record {
  given : AreSeen l.known l.seen;
  left : none_given l.known l.rest l.at ≡ none_given l.known l.holidays l.places;
}

abbrev pub decreases-loop-holiday : goal.decreases-loop-holiday
decreases-loop-holiday l = length l.rest
