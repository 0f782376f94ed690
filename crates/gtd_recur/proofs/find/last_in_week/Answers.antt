-- Days outside of the given week have no start: without a year, the week of this year or that of the year before
-- is the last one.
use Rattle.std.proofs.Common.{◌≡◌, arith, pos, ◌-ℤ◌, to_z, of_z, w64, to_z-of_z, FitsSigned, rules}
use Rattle.gtd_calendar.specs.facts.Signed.{signed_arith}
use Rattle.gtd_recur.proofs.FindLemmas.{given-week-back, this-week-back, week-before, week_year-calendar}
use Rattle.gtd_recur.proofs.find.last_in_week.Goals as goal

pub overflow_sub-of : goal.overflow_sub-of
overflow_sub-of c =
    let d0 = c.requires.low_in in let d1 = c.requires.order in let d2 = c.requires.day_in in
    let day : to_z w64 (of_z w64 c.args.day) ≡ c.args.day = to_z-of_z c.ranges.day in
    let year = week_year-calendar c.args.day (omega (arith, signed_arith, d0, d1)) (omega (arith, signed_arith, d2)) in
    let y0 = year.0 in let y1 = year.1 in
    let of = c.requires.of in
    omega (arith, signed_arith, of, y0, y1)

pub returns-in-Some-clause-none : goal.returns-in-Some-clause-none
returns-in-Some-clause-none c =
    let d0 = c.requires.low_in in let d1 = c.requires.order in let d2 = c.requires.day_in in
    let day : to_z w64 (of_z w64 c.args.day) ≡ c.args.day = to_z-of_z c.ranges.day in
    let least : to_z w64 (of_z w64 (to_z w64 (of_z w64 c.args.low) -ℤ pos 1)) ≡ c.args.low -ℤ pos 1 =
    omega (arith, signed_arith, d0, d1, d2) in
    let given : to_z w64 (of_z w64 c.from.result) ≡ pos c.in-Some.year = omega (arith, signed_arith) in
    let fits : FitsSigned w64 c.unwrap_or.result = search rules in
    let back : to_z w64 (of_z w64 c.unwrap_or.result) ≡ c.unwrap_or.result = to_z-of_z fits in
    rw back (λ n. given-week-back c.args.start.now c.args.week c.in-Some.year c.args.low c.args.day n c.unwrap_or.result
    c.last_of_week.result c.requires.week c.in-Some.is (rw (given, day) at c.last_of_week.ensures.last)
    (rw least at c.unwrap_or.ensures) d0 d2)

pub returns-in-Some-last_of_week-clause-none : goal.returns-in-Some-last_of_week-clause-none
returns-in-Some-last_of_week-clause-none c =
    let day : to_z w64 (of_z w64 c.args.day) ≡ c.args.day = to_z-of_z c.ranges.day in
    let of : to_z w64 (of_z w64 c.args.of) ≡ c.args.of = to_z-of_z c.ranges.of in
    let is = c.requires.of in
    let fits : FitsSigned w64 c.in-Some-last_of_week.last = search rules in
    let back : to_z w64 (of_z w64 c.in-Some-last_of_week.last) ≡ c.in-Some-last_of_week.last = to_z-of_z fits in
    rw back (λ n from gt lt. this-week-back c.args.start.now c.args.week c.args.day n c.in-Some-last_of_week.last c.requires.week
    (rw (of, day, is, c.in-Some-last_of_week.is) at c.last_of_week-in-None.ensures.last) lt gt)

pub returns-in-None-last_of_week-clause-none : goal.returns-in-None-last_of_week-clause-none
returns-in-None-last_of_week-clause-none c =
    let d0 = c.requires.low_in in let d1 = c.requires.order in let d2 = c.requires.day_in in
    let day : to_z w64 (of_z w64 c.args.day) ≡ c.args.day = to_z-of_z c.ranges.day in
    let year = week_year-calendar c.args.day (omega (arith, signed_arith, d0, d1)) (omega (arith, signed_arith, d2)) in
    let y0 = year.0 in let y1 = year.1 in
    let is = c.requires.of in
    let of : to_z w64 (of_z w64 c.args.of) ≡ c.args.of = to_z-of_z c.ranges.of in
    let before : to_z w64 (of_z w64 (c.args.of -ℤ pos 1)) ≡ c.args.of -ℤ pos 1 = omega (arith, signed_arith, is, y0, y1) in
    let under : to_z w64 (of_z w64 (to_z w64 (of_z w64 c.args.day) -ℤ pos 1)) ≡ c.args.day -ℤ pos 1 =
    omega (arith, signed_arith, d0, d1, d2) in
    let fits : FitsSigned w64 c.unwrap_or-in-None-last_of_week.result = search rules in
    let back : to_z w64 (of_z w64 c.unwrap_or-in-None-last_of_week.result) ≡ c.unwrap_or-in-None-last_of_week.result =
    to_z-of_z fits in
    rw back (λ n. week-before c.args.start.now c.args.week c.args.low c.args.day n c.unwrap_or-in-None-last_of_week.result
    c.last_of_week-in-None-last_of_week.result c.requires.week
    (rw (of, day, is, c.in-None-last_of_week.is) at c.last_of_week-in-None.ensures.last)
    (rw (of, before, day, is) at c.last_of_week-in-None-last_of_week.ensures.last)
    (rw under at c.unwrap_or-in-None-last_of_week.ensures) d0 d2)
