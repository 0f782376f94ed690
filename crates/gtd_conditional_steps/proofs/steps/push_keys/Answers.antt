-- First the steps without conditions, then those with.
use Rattle.std.proofs.Common.{false, true}
use Rattle.gtd_conditional_steps.specs.Sayings.{said_by_key}
use Rattle.gtd_conditional_steps.proofs.StepLemmas.{both}
use Rattle.gtd_conditional_steps.proofs.steps.push_keys.Goals as goal

pub returns : goal.returns
returns c =
    both c.args.asked.means.now.rows.items c.args.asked.direction
    (said_by_key c.args.types.now c.args.key.mode c.args.key.direction false c.args.tags.now)
    (said_by_key c.args.types.now c.args.key.mode c.args.key.direction true c.args.tags.now) c.args.steps.now.items
    c.push_key.new.steps.items c.push_key-2.new.steps.items c.in_ok-push_key.ensures c.in_ok-push_key-2.ensures
