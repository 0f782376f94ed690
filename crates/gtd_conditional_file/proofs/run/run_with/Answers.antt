-- A table without a fault is the one by which the tags are read.
use Rattle.gtd_conditional_file.proofs.run.run_with.Goals as goal

pub returns-in-Ok-clause-stands : goal.returns-in-Ok-clause-stands
returns-in-Ok-clause-stands g c = c.run_tags.ensures.stands c.args.bytes.now c.in-Ok.ensures.table

pub returns-in-Ok-clause-warned : goal.returns-in-Ok-clause-warned
returns-in-Ok-clause-warned g c = c.run_tags.ensures.warned c.args.bytes.now c.in-Ok.ensures.table
