use Rattle.gtd_difference.proofs.states.+fix.Goals as goal

-- a basic domain with a date is fixed as its own state says
pub returns-in-Dated-clause-fixed : goal.returns-in-Dated-clause-fixed
returns-in-Dated-clause-fixed t c = rw c.in-Dated.is c.fix.ensures.fixed
