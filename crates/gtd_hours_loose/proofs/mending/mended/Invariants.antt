-- The form holds the mended parts of the tokens so far, and with those of the rest it holds the whole of the text.
use Rattle.std.proofs.Common.{length}
use Rattle.gtd_hours_loose.specs.Mending.{mended}
use Rattle.gtd_hours_loose.proofs.MendingLemmas.{HoldsTokens}
use Rattle.gtd_hours_loose.proofs.mending.mended.Given as goal

abbrev pub invariant-loop-token : goal.invariant-loop-token
invariant-loop-token l = HoldsTokens l.form l.text l.place l.behind l.rest (mended l.text l.tokens)

abbrev pub decreases-loop-token : goal.decreases-loop-token
decreases-loop-token l = length l.rest
