-- Lists with the same restrictions have the same schedule, in whatever order and however often these stand.
use Rattle.gtd_schedule.proofs.OrderFacts.{permuted_schedule, same_schedule}
use Rattle.gtd_schedule.proofs.laws.schedule_in_any_order.Goals as goal

pub returns : goal.returns
returns c = record { same = same_schedule; permuted = permuted_schedule }
