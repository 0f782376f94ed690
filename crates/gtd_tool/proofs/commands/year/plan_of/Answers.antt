-- Words that stand for a table and a file's name make up the plan of that table.
use Rattle.gtd_tool.proofs.PlanLemmas.{year_read}
use Rattle.gtd_tool.proofs.commands.year.plan_of.Goals as goal

pub returns : goal.returns
returns c = λ element direction vehicle year are.
    year_read c.args.file.now element direction vehicle year _ _ _ _ _ are c.in_ok-file.ensures.kept
