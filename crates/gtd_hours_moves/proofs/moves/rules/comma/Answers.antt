-- A comma behind which the list cannot go on ends the rule, and the next one begins without replacing it.
use Rattle.std.proofs.Common.{◌∙◌, sym}
use Rattle.gtd_hours_moves.proofs.GoodRules.{also_good}
use Rattle.gtd_hours_moves.proofs.moves.rules.comma.Goals as goal

pub returns-else-next_goes_on-clause-good : goal.returns-else-next_goes_on-clause-good
returns-else-next_goes_on-clause-good c =
    rw (c.give.ensures) (also_good c.args.s c.args.next c.requires.sound (sym c.next_goes_on.ensures ∙ c.if-next_goes_on.false))
