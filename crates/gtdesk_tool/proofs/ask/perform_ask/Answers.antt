-- The run's answer is that of the command, whose counts of failures are those of the run.
use Rattle.std.proofs.Common.{◌∙◌}
use Rattle.gtdesk_tool.proofs.ask.perform_ask.Goals as goal

pub returns-clause-ran : goal.returns-clause-ran
returns-clause-ran g c =
    let e = c.run_ask.ensures in
    record {
      answer = c.run_ask.result;
      outcome = c.ask_outcome.ensures.value;
      headline = λ asked read wrote.
          e.headline (e.questions_faults ∙ asked _) (e.records_faults ∙ read _) (e.write_faults ∙ wrote _);
      stands = e.stands;
      whole = e.ended;
      vehicle = e.vehicle;
      year = e.year;
      element = e.element;
      questions_endless = e.questions_endless;
      records_endless = e.records_endless;
    }
