-- The rules that have ended, and behind them the rule of the draft, are the rules of all pieces.
use Rattle.gtd_hours_text.proofs.BuildingLemmas.{hours_built}
use Rattle.gtd_hours_text.proofs.builder.hours_of.Goals as goal

pub returns : goal.returns
returns c = hours_built c.args.so_far c.in_ok-rule.rule c.push.new.self.items c.in_ok-rule.ensures c.in_ok-push.ensures.items
