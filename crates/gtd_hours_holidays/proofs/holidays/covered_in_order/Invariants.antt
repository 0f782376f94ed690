use Rattle.gtd_hours_holidays.specs.Covering.{IsCoveredUntil}
use Rattle.gtd_hours_holidays.proofs.holidays.covered_in_order.Given as goal

-- the days up to there are covered
abbrev pub invariant-loop-start : goal.invariant-loop-start
invariant-loop-start l = IsCoveredUntil l.rows l.kind l.day l.until
