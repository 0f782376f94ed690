use Rattle.std.proofs.Common.{◌≡◌, take, true}
use Rattle.gtd_hours_holidays.specs.Covering.{IsCoveredUntil}
use Rattle.gtd_hours_holidays.specs.Table.{IsOfRows}
use Rattle.gtd_hours_holidays.proofs.holidays.covered_until.Given as goal

-- the days up to there are covered; where it is still the first one, no row so far has it
abbrev pub invariant-loop-row : goal.invariant-loop-row
invariant-loop-row l = record {
  until : IsCoveredUntil l.rows l.kind l.day l.until;
  stays : l.until ≡ l.day → IsOfRows l.kind true l.day (take l.row-index l.rows) → ⊥;
}
