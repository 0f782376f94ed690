-- The weekday of the next day, by the remainder of the day by 7: after the seventh comes the first.
use Rattle.std.proofs.Common.{arith}
use Rattle.gtd_calendar.specs.facts.Signed.{signed_arith}
use Rattle.gtd_calendar.specs.Calendar.{weekday_of}
use Rattle.gtd_recur.proofs.find.weekday_after.Goals as goal

pub returns-then-weekday-eq7-clause-next : goal.returns-then-weekday-eq7-clause-next
unfolding weekday_of
returns-then-weekday-eq7-clause-next c n is = let seven = c.if-weekday-eq7.true in omega (arith, signed_arith, seven, is)

pub returns-else-weekday-eq7-clause-next : goal.returns-else-weekday-eq7-clause-next
unfolding weekday_of
returns-else-weekday-eq7-clause-next c n is = let other = c.if-weekday-eq7.false in omega (arith, signed_arith, other, is)
