-- Ascending ranges of elements, two or many, have their schedules one after the other as that of all.
use Rattle.gtd_schedule.proofs.OrderFacts.{schedule_of_parts, schedule_of_two}
use Rattle.gtd_schedule.proofs.laws.schedule_of_ranges.Goals as goal

pub returns : goal.returns
returns c = record { two = schedule_of_two; many = schedule_of_parts }
