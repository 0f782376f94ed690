-- The answer is what was put of the rows.
use Rattle.gtd_conditional_file.proofs.RunFacts.{has_converted}
use Rattle.gtd_conditional_file.proofs.run.put_few.Goals as goal

pub returns-clause-stands : goal.returns-clause-stands
returns-clause-stands g c = λ how paths means tags files.
    rw c.answer.ensures.value
    (has_converted how c.put_records-put.result paths means tags (g.O.Output.taken c.args.output.now)
    (g.O.Output.taken c.put_records-put.new.output) c.put_records-put.new.progress c.args.rows.now files c.requires.few
    (rw c.new-progress.ensures.value at c.put_records-put.ensures.puts))
