-- Where no open fallback rule stands, there is no last one.
use Rattle.std.proofs.Common.{arith}
use Rattle.gtd_hours_domain.proofs.CostLemmas.{up-or-none}
use Rattle.gtd_hours_domain.proofs.cost.up_to_fallback.Goals as goal

pub loop-rule-init : goal.loop-rule-init
loop-rule-init c = (omega arith, up-or-none c.args.rules.now)
