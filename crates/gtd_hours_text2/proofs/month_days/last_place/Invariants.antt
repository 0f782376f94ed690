-- the last token is the last of the rest
use Rattle.std.proofs.Common.{◌≡◌, length}
use Rattle.gtd_hours_text2.specs.Parts.{last_from, last_place}
use Rattle.gtd_hours_text2.proofs.month_days.last_place.Given as goal

abbrev pub invariant-loop-token : goal.invariant-loop-token
invariant-loop-token l = last_from l.offset l.rest ≡ last_place l.fn.tokens

abbrev pub decreases-loop-token : goal.decreases-loop-token
decreases-loop-token l = length l.rest
