-- Of a file that is too large the output takes its only fault, whatever the bytes beyond the limit are.
use Rattle.std.specs.Prelude.{string_bytes}
use Rattle.gtd_faults.proofs.RunFacts.{large_list, listed}
use Rattle.gtd_faults.proofs.run.put_too_large.Goals as goal

pub returns-clause-listed : goal.returns-clause-listed
returns-clause-listed g c = λ bytes asked more.
    listed c.args.path.now bytes (string_bytes c.in-Ok.list.text) asked 1 (g.O.Output.taken c.args.output.now)
    (g.O.Output.taken c.put_numbered.new.output) c.put_numbered.result
    (large_list c.args.path.now bytes (string_bytes c.in-Ok.list.text) asked more c.in-Ok.ensures)
    (rw c.as_str.ensures.value at c.put_numbered.ensures.put)
