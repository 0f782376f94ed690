-- The selectors passed and those of the rest before its first holiday are together those before the first.
use Rattle.std.proofs.Common.{◌≡◌, ◌+◌, length}
use Rattle.gtd_hours_holiday_rules.specs.Rules.{before_holiday}
use Rattle.gtd_hours_holiday_rules.proofs.rules.before_holiday.Given as goal

abbrev pub invariant-loop-is_holiday : goal.invariant-loop-is_holiday
invariant-loop-is_holiday l =
    (l.count + before_holiday l.rest ≡ before_holiday l.order) × (l.count + length l.rest ≡ length l.order)

abbrev pub decreases-loop-is_holiday : goal.decreases-loop-is_holiday
decreases-loop-is_holiday l = length l.rest
