-- There is a schedule for each vehicle type and horizon: it is built element by element.
use Rattle.gtd_schedule.proofs.SomeSchedule.{some_schedule}
use Rattle.gtd_schedule.proofs.laws.some_schedule.Goals as goal

pub returns : goal.returns
returns c = record { some = some_schedule }
