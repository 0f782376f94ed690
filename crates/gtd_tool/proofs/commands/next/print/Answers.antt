-- The line printed answers the question in the horizon, and one that was cut short is a part of it.
use Rattle.gtd_core.specs.Parts.{domain_tree}
use Rattle.gtd_core.specs.Whole.{to_day}
use Rattle.gtd_tool.specs.Asked.{Next}
use Rattle.gtd_tool.proofs.AnswerLemmas.{next_line, next_part, on_ok, on_err, stop_of_write}
use Rattle.gtd_tool.proofs.commands.next.print.Goals as goal

pub returns-in-Ok-clause-printed : goal.returns-in-Ok-clause-printed
returns-in-Ok-clause-printed g c =
    on_ok c.print_change.result _ _ (next_line (domain_tree c.args.domain.now) c.args.moment.second
    (to_day c.args.moment.horizon) c.in-Ok.change _ _ c.in-Ok.ensures.change) c.print_change.ensures.printed

pub returns-in-Ok-clause-stopped : goal.returns-in-Ok-clause-stopped
returns-in-Ok-clause-stopped g c =
    stop_of_write (Next (domain_tree c.args.domain.now) c.args.moment.second (to_day c.args.moment.horizon))
    (g.W.Write.contents c.args.out.now) (g.W.Write.contents c.print_change.new.out) _ c.print_change.result
    (on_err c.print_change.result _ _ (next_part (domain_tree c.args.domain.now) c.args.moment.second
    (to_day c.args.moment.horizon) c.in-Ok.change _ _ c.in-Ok.ensures.change) c.print_change.ensures.part)
    c.print_change.ensures.cause
