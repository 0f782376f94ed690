-- The answer of a run over rows of a file is what was put.
use Rattle.gtd_hours_file.proofs.RunFacts.{has_translated}
use Rattle.gtd_hours_file.proofs.run.put_sound.Goals as goal

pub returns-clause-stands : goal.returns-clause-stands
returns-clause-stands g c = λ how path file.
    rw c.answer.ensures.value
    (has_translated how c.put_records-put.result path c.args.bytes.now (g.O.Output.taken c.args.output.now)
    (g.O.Output.taken c.put_records-put.new.output) c.put_records-put.new.progress c.args.rows.now file
    (rw c.new-progress.ensures.value at c.put_records-put.ensures.puts))
