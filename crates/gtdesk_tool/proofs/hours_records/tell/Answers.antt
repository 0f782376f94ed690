-- What the output for errors took, and whether it failed, is all or a first part of the lines.
use Rattle.gtdesk_tool.specs.Telling.{Telling}
use Rattle.gtdesk_tool.proofs.RunningFacts.{told_of}
use Rattle.gtdesk_tool.proofs.hours_records.tell.Goals as goal

pub returns : goal.returns
returns g c =
    let errors : Telling = record {
      before = g.E.Output.taken c.args.errors.now;
      after = g.E.Output.taken c.put_line.new.output;
      failed_before = g.E.Output.failure_count c.args.errors.now;
      failed_after = g.E.Output.failure_count c.put_line.new.output;
    } in
    record {
      told = told_of errors c.args.lines.now c.put_line.result c.put_line.ensures.all c.put_line.ensures.some
          c.put_line.ensures.failures;
    }
