-- The days of the rows that do not merely cover are the holidays.
use Rattle.gtd_hours_holidays.proofs.holidays.Holidays.days.Goals as goal

pub returns : goal.returns
returns c = record { days = rw c.as_slice.ensures.value at c.days_of.ensures }
