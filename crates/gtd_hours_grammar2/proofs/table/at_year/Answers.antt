use Rattle.gtd_hours_grammar2.proofs.table.at_year.Goals as goal

pub returns-in-End : goal.returns-in-End
returns-in-End c = rw c.in-End.is c.done-in-End.ensures
