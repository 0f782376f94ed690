-- Minute by minute, the points are those that are some steps after the first.
use Rattle.gtd_hours_moments.specs.Minutes.{lasting}
use Rattle.gtd_hours_moments.proofs.MeaningLemmas.{are_points, points_are}
use Rattle.gtd_hours_moments.proofs.laws.points_are_steps.Goals as goal

pub returns-clause-points : goal.returns-clause-points
returns-clause-points c = λ begin last step point range. points_are begin (lasting begin last) step point range

pub returns-clause-all : goal.returns-clause-all
returns-clause-all c = λ begin last step point range. are_points begin (lasting begin last) step point range
