-- What is computed from a text meets the definition of its reading, and any other reading equals it.
use Rattle.gtd_calendar.proofs.MomentLemmas.{stamp_in-is, stamp_in-only}
use Rattle.gtd_calendar.proofs.StampLemmas.{date_in-is, date_in-only}
use Rattle.gtd_calendar.proofs.laws.one_reading.Goals as goal

pub returns : goal.returns
returns c = record { date = date_in-is; date_only = date_in-only; stamp = stamp_in-is; stamp_only = stamp_in-only }
