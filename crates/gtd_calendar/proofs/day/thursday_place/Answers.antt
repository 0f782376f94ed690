-- The place in the year moves by less than a week, so it stays from -4 to 368 and nothing overflows.
use Rattle.std.proofs.Common.{arith, ◌≡◌, ◌+◌, ◌%◌, pos}
use Rattle.jiff.specs.Words.{ordinal}
use Rattle.jiff.proofs.SpanFacts.{signed_arith}
use Rattle.gtd_calendar.specs.facts.JiffLemmas.{ordinal-bound}
use Rattle.gtd_calendar.proofs.day.thursday_place.Goals as goal

pub overflow_sub-result : goal.overflow_sub-result
overflow_sub-result c =
    let last = ordinal-bound c.args.date in
    let is : c.day_of_year.result ≡ pos (ordinal c.args.date) = c.day_of_year.ensures in
    omega (arith, signed_arith)

pub overflow_add-result : goal.overflow_add-result
overflow_add-result c =
    let last = ordinal-bound c.args.date in
    let is : c.day_of_year-2.result ≡ pos (ordinal c.args.date) = c.day_of_year-2.ensures in
    omega (arith, signed_arith)

pub overflow_sub-result-2 : goal.overflow_sub-result-2
overflow_sub-result-2 c =
    let last = ordinal-bound c.args.date in
    let is : c.day_of_year-2.result ≡ pos (ordinal c.args.date) = c.day_of_year-2.ensures in
    omega (arith, signed_arith)

pub returns-then-weekday-eq1-clause-bound : goal.returns-then-weekday-eq1-clause-bound
returns-then-weekday-eq1-clause-bound c =
    let last = ordinal-bound c.args.date in
    let is : c.day_of_year.result ≡ pos (ordinal c.args.date) = c.day_of_year.ensures in
    (omega (arith, signed_arith), omega (arith, signed_arith))

pub returns-clause-value : goal.returns-clause-value
returns-clause-value c =
    let last = ordinal-bound c.args.date in
    let is : c.day_of_year-2.result ≡ pos (ordinal c.args.date) = c.day_of_year-2.ensures in
    let place : (c.args.weekday + 5) % 7 + 2 ≡ c.args.weekday = omega arith in
    omega (arith, signed_arith)

pub returns-clause-bound : goal.returns-clause-bound
returns-clause-bound c =
    let last = ordinal-bound c.args.date in
    let is : c.day_of_year-2.result ≡ pos (ordinal c.args.date) = c.day_of_year-2.ensures in
    (omega (arith, signed_arith), omega (arith, signed_arith))
