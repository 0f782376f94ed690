-- The bytes that the input brought whole are those of which the state is put.
use Rattle.gtd_now.proofs.NowFacts.{of_input}
use Rattle.gtd_now.specs.Query.{query_of}
use Rattle.gtd_now.specs.Run.{entries_of}
use Rattle.gtd_now.proofs.run.run.Goals as goal

pub returns-in-Ok-clause-stands : goal.returns-in-Ok-clause-stands
returns-in-Ok-clause-stands g c =
    of_input c.as_slice.result.now (query_of c.args.asked.now) (g.I.Input.to_come c.args.input.now)
    (g.O.Output.taken c.args.output.now) (g.O.Output.taken c.put_now.new.output) (entries_of c.put_now.result)
    (rw (c.as_slice.ensures.value) c.in-Ok.ensures.whole) c.put_now.ensures.stands
