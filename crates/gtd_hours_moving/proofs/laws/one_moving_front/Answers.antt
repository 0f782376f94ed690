use Rattle.gtd_hours_moving.specs.facts.OneFront.{one_front}
use Rattle.gtd_hours_moving.proofs.laws.one_moving_front.Goals as goal

pub returns : goal.returns
returns c = one_front
