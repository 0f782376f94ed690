-- A file that was found too large is listed as one, whichever bytes the input had still to bring.
use Rattle.std.proofs.Common.{rules}
use Rattle.gtd_faults.proofs.RunFacts.{large_listed}
use Rattle.gtd_faults.proofs.run.run_faults.Goals as goal

pub returns-in-Err-TooLarge-clause-listed : goal.returns-in-Err-TooLarge-clause-listed
returns-in-Err-TooLarge-clause-listed g c =
    large_listed c.args.path.now (g.I.Input.to_come c.args.input.now) (g.O.Output.taken c.args.output.now)
    (g.O.Output.taken c.put_too_large.new.output) c.args.asked.now c.put_too_large.result (search rules)
    c.put_too_large.ensures.listed
