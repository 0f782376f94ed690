-- A part that is written loosely adds its warning.
use Rattle.gtd_hours_warnings.proofs.WarningFacts.{one_put}
use Rattle.gtd_hours_warnings.proofs.warnings.add_loose.Goals as goal

pub returns-in_ok-push : goal.returns-in_ok-push
returns-in_ok-push c =
    one_put _ c.args.strict.now c.args.part c.in_ok-loose_warning.field-0 c.args.warnings.now.items c.push.new.self.items
    (let e = c.is_loose.ensures in let t = c.if-is_loose.true in cc) c.in_ok-loose_warning.ensures c.in_ok-push.ensures.items
