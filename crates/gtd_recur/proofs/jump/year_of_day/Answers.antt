-- The guess by the mean length of a year is wrong by at most one: the first days of two years tell which it is.
use Rattle.std.proofs.Common.{arith, rules, ◌≤ℤ◌, ◌<ℤ◌, pos, FitsSigned, w64, ◌-ℤ◌}
use Rattle.gtd_calendar.specs.facts.Signed.{signed_arith}
use Rattle.gtd_recur.proofs.JumpLemmas.{year-early, year-here, year-late, year-low, guess-is}
use Rattle.gtd_recur.proofs.jump.year_of_day.Goals as goal

pub returns-then-day-first_of : goal.returns-then-day-first_of
returns-then-day-first_of c =
    let k = guess-is _ _ _ c.ranges.day c.guessed_year-guess.ensures.bound c.guessed_year-guess.ensures.value
    c.first_of.ensures.value in
    let fits : FitsSigned w64 c.first_of.result = search rules in
    let early : c.args.day <ℤ c.first_of.result = omega (arith, signed_arith, c.if-day-first_of.true) in
    let year = year-early c.args.day c.guessed_year-guess.result k.value (rw (← k.first_is) early) in
    rw (k.small.is, k.small.before) (record {
      value = year;
      bound = (
        year-low c.args.day (c.guessed_year-guess.result -ℤ pos 1) c.requires.low year,
        omega (arith, signed_arith, k.high),
      );
    })

pub returns-then-day-first_of-2-clause-value : goal.returns-then-day-first_of-2-clause-value
returns-then-day-first_of-2-clause-value c =
    let k = guess-is _ _ _ c.ranges.day c.guessed_year-guess.ensures.bound c.guessed_year-guess.ensures.value
    c.first_of.ensures.value in
    let fits : FitsSigned w64 c.first_of.result = search rules in
    let fits_next : FitsSigned w64 c.first_of-2.result = search rules in
    let next = rw (k.small.is, k.small.after) at c.first_of-2.ensures.value in
    let late : c.first_of.result ≤ℤ c.args.day = omega (arith, signed_arith, c.if-day-first_of.false) in
    let early : c.args.day <ℤ c.first_of-2.result = omega (arith, signed_arith, c.if-day-first_of-2.true) in
    rw (k.small.is) (year-here c.args.day c.guessed_year-guess.result (rw (← k.first_is) late) (rw (← next) early))

pub returns-clause-value : goal.returns-clause-value
returns-clause-value c =
    let k = guess-is _ _ _ c.ranges.day c.guessed_year-guess.ensures.bound c.guessed_year-guess.ensures.value
    c.first_of.ensures.value in
    let fits : FitsSigned w64 c.first_of-2.result = search rules in
    let next = rw (k.small.is, k.small.after) at c.first_of-2.ensures.value in
    let late : c.first_of-2.result ≤ℤ c.args.day = omega (arith, signed_arith, c.if-day-first_of-2.false) in
    rw (k.small.is, k.small.after) (year-late c.args.day c.guessed_year-guess.result k.value (rw (← next) late))
