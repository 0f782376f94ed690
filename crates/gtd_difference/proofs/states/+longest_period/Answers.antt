-- The longer of the periods of two sides is not shorter than those of either.
use Rattle.gtd_recur.specs.Periods.{period_seconds}
use Rattle.gtd_difference.specs.Pieces.{HaveShortPeriods}
use Rattle.gtd_difference.proofs.FixedDates.{short-periods}
use Rattle.gtd_difference.proofs.states.+longest_period.Goals as goal

pub returns-in-Join : goal.returns-in-Join
returns-in-Join t c =
    let both = c.in-Join.both.value in
    let x = c.longest_period-first.result in
    let y = c.longest_period-second.result in
    let z = c.longer.result in
    let first : HaveShortPeriods (period_seconds x) both.0 = rw (← c.deref.ensures) c.longest_period-first.ensures.longest in
    let second : HaveShortPeriods (period_seconds y) both.1 = rw (← c.deref.ensures) c.longest_period-second.ensures.longest in
    record {
      longest = rw c.in-Join.is (
        short-periods (period_seconds x) (period_seconds z) both.0 c.longer.ensures.first first,
        short-periods (period_seconds y) (period_seconds z) both.1 c.longer.ensures.second second,
      );
    }
