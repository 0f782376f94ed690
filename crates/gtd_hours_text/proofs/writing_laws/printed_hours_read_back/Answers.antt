-- Writable hours are what their written text stands for, and hours that were read from a text are writable.
use Rattle.gtd_hours_text.proofs.WritableLemmas.{can_be_written}
use Rattle.gtd_hours_text.proofs.WrittenHours.{hours_stand}
use Rattle.gtd_hours_text.proofs.writing_laws.printed_hours_read_back.Goals as goal

pub returns-clause-written : goal.returns-clause-written
returns-clause-written c = hours_stand

pub returns-clause-read : goal.returns-clause-read
returns-clause-read c = λ text hours stands. hours_stand hours (can_be_written text hours stands)
