-- A failure of the input or output is one of the run that draws, whose outcome the command hands on.
use Rattle.std.proofs.Common.{◌∙◌}
use Rattle.gtdesk_tool.specs.Running.{failures_after_read, failures_after_write}
use Rattle.gtdesk_tool.proofs.RunningFacts.{handed_on, picture_reads, picture_writes}
use Rattle.gtdesk_tool.proofs.picture.print_picture.Goals as goal

pub returns-clause-ran : goal.returns-clause-ran
returns-clause-ran g c =
    let e = c.run_picture.ensures in
    record {
      answer = c.run_picture.result;
      outcome = c.picture_outcome.ensures.value;
      accepted = λ type year read wrote. e.accepted type year (e.read_faults ∙ read _) (e.write_faults ∙ wrote _);
      refused = λ type year read wrote. e.refused type year (e.read_faults ∙ read _) (e.write_faults ∙ wrote _);
      unnamed = λ type year read wrote. e.unnamed type year (e.read_faults ∙ read _) (e.write_faults ∙ wrote _);
      stands = e.stands;
      whole = e.ended;
      vehicle_range = e.vehicle;
      year_range = e.year;
      endless = e.endless;
    }

pub returns-clause-read_faults : goal.returns-clause-read_faults
returns-clause-read_faults g c =
    handed_on failures_after_read _ _ _ _ _
    c.run_picture.ensures.read_faults (picture_reads c.run_picture.result _) c.picture_outcome.ensures.value

pub returns-clause-write_faults : goal.returns-clause-write_faults
returns-clause-write_faults g c =
    handed_on failures_after_write _ _ _ _ _
    c.run_picture.ensures.write_faults (picture_writes c.run_picture.result _) c.picture_outcome.ensures.value
