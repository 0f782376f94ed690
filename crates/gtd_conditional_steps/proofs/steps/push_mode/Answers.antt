-- First the steps of keys without a direction, then those with it.
use Rattle.std.proofs.Common.{◌++◌, false, true, None, Some}
use Rattle.gtd_conditional_steps.specs.Sayings.{said_by_key}
use Rattle.gtd_conditional_steps.proofs.StepLemmas.{both}
use Rattle.gtd_conditional_steps.proofs.steps.push_mode.Goals as goal

pub returns : goal.returns
returns c =
    let types = c.args.types.now in
    let tags = c.args.tags.now in
    let way = c.args.asked.direction in
    both c.args.asked.means.now.rows.items way
    (said_by_key types c.args.mode None false tags ++ said_by_key types c.args.mode None true tags)
    (said_by_key types c.args.mode (Some way) false tags ++ said_by_key types c.args.mode (Some way) true tags)
    c.args.steps.now.items c.push_keys.new.steps.items c.push_keys-2.new.steps.items c.in_ok-push_keys.ensures
    c.in_ok-push_keys-2.ensures
