-- So many selectors more as there were turns.
use Rattle.std.proofs.Common.{◌≡◌, ◌++◌, false, replicate}
use Rattle.gtd_hours_holiday_rules.proofs.rules.push_own.Given as goal

abbrev pub invariant-loop : goal.invariant-loop
invariant-loop l = l.order.items ≡ l.initial.order.items ++ replicate l.counter false
