-- The values that `clap` answers are all those in the row of this name.
use Rattle.std.proofs.Common.{◌∙◌}
use Rattle.clap.specs.Matches.{found_of}
use Rattle.clap.proofs.WalkLemmas.{raw_values-rows}
use Rattle.gtdesk_plans.proofs.given.values.Goals as goal

pub returns : goal.returns
returns c = c.get_raw.ensures ∙ raw_values-rows (found_of c.args.given.now) c.args.name.now
