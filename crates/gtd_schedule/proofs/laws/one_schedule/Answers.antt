-- Two schedules of the same restrictions for a vehicle type and a horizon are equal, line by line.
use Rattle.gtd_schedule.proofs.ScheduleFacts.{one_schedule}
use Rattle.gtd_schedule.proofs.laws.one_schedule.Goals as goal

pub returns : goal.returns
returns c = record { one = one_schedule }
