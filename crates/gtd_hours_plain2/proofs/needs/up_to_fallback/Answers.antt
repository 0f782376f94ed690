-- Where no such rule is, there is no last one.
use Rattle.gtd_hours_plain2.proofs.Falling.{up_or_none}
use Rattle.gtd_hours_plain2.proofs.needs.up_to_fallback.Goals as goal

pub loop-rule-init : goal.loop-rule-init
loop-rule-init c = up_or_none c.args.rules
