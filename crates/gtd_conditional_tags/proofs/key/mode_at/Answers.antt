-- The table tells the same place.
use Rattle.std.proofs.Common.{◌∙◌}
use Rattle.gtd_conditional_tags.proofs.ModeFacts.{place_is}
use Rattle.gtd_conditional_tags.proofs.key.mode_at.Goals as goal

pub returns : goal.returns
returns c = c.mode_place.ensures.place ∙ place_is 0 c.args.name.now c.args.means.now.rows.items
