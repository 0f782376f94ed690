-- A change that is found can be printed, and without one the line says that there is none ever.
use Rattle.gtd_core.specs.Parts.{domain_tree}
use Rattle.gtd_tool.specs.Asked.{Ever}
use Rattle.gtd_tool.proofs.AnswerLemmas.{ever_in_range, ever_line, ever_part, on_err, on_ok, stop_of_write}
use Rattle.gtd_tool.proofs.LawLemmas.{ok_or_err}
use Rattle.gtd_tool.proofs.commands.ever.print.Goals as goal

pub print_change-requires : goal.print_change-requires
print_change-requires g c = record {
  in_range = ever_in_range (domain_tree c.args.domain.now) c.args.moment.second.0 c.in-Ok.change c.args.moment.in_range
      (λ year. ok_or_err c.next_change_ever.result c.in-Ok.change _ c.in-Ok.is (c.next_change_ever.ensures.has_year.1 year))
      c.in-Ok.ensures.change;
}

pub returns-in-Ok-clause-printed : goal.returns-in-Ok-clause-printed
returns-in-Ok-clause-printed g c =
    on_ok c.print_change.result _ _ (ever_line (domain_tree c.args.domain.now) c.args.moment.second c.in-Ok.change _ _
    c.in-Ok.ensures.change) c.print_change.ensures.printed

pub returns-in-Ok-clause-stopped : goal.returns-in-Ok-clause-stopped
returns-in-Ok-clause-stopped g c =
    stop_of_write (Ever (domain_tree c.args.domain.now) c.args.moment.second)
    (g.W.Write.contents c.args.out.now) (g.W.Write.contents c.print_change.new.out) _ c.print_change.result
    (on_err c.print_change.result _ _ (ever_part (domain_tree c.args.domain.now) c.args.moment.second c.in-Ok.change _ _
    c.in-Ok.ensures.change) c.print_change.ensures.part)
    c.print_change.ensures.cause
