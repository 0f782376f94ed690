-- Bit k of the sum is set exactly if weekday k is in the range, since each summand is one bit at its own place.
use Rattle.gtd_hours.specs.Opening.{IsRound}
use Rattle.gtd_hours_selectors.proofs.DayLemmas.{bits-hold}
use Rattle.gtd_hours_selectors.proofs.days.weekday_bits.Goals as goal

pub returns-clause-bits : goal.returns-clause-bits
returns-clause-bits c =
    let sun = c.weekday_bit-sun.ensures in
    let mon = c.weekday_bit-mon.ensures in
    let tue = c.weekday_bit-tue.ensures in
    let wed = c.weekday_bit-wed.ensures in
    let thu = c.weekday_bit-thu.ensures in
    let fri = c.weekday_bit-fri.ensures in
    let sat = c.weekday_bit-sat.ensures in
    bits-hold _ _ _ _ _ _ _ sun.bit mon.bit tue.bit wed.bit thu.bit fri.bit sat.bit (IsRound c.args.days.first c.args.days.last)
    sun.has mon.has tue.has wed.has thu.has fri.has sat.has
