-- Where no such rule stands, there is no last one.
use Rattle.std.proofs.Common.{arith}
use Rattle.gtd_hours_known.proofs.NeedFacts.{up_or_none}
use Rattle.gtd_hours_known.proofs.needs.up_to_fallback.Goals as goal

pub loop-rule-init : goal.loop-rule-init
loop-rule-init c = (omega arith, up_or_none c.args.rules.now)
