-- Three ways to match come to the same: as it is computed, by dates, and by the fields that the calendar gives of days.
use Rattle.gtd_recur.specs.facts.DateMatches.{begins-matches, matches-fields}
use Rattle.gtd_recur.proofs.laws.matching.Goals as goal

pub returns : goal.returns
returns c = record { matches = begins-matches; fields = matches-fields }
