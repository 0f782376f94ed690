-- Days outside of the given week have no start: without a year, the week of this year or that of the next comes first.
use Rattle.std.proofs.Common.{◌≡◌, arith, pos, ◌+ℤ◌, to_z, of_z, w64, to_z-of_z, FitsSigned, rules}
use Rattle.gtd_calendar.specs.facts.Signed.{signed_arith}
use Rattle.gtd_recur.proofs.FindLemmas.{given-week, this-week, next-week, week_year-calendar}
use Rattle.gtd_recur.proofs.find.next_in_week.Goals as goal

pub overflow_add-of : goal.overflow_add-of
overflow_add-of c =
    let d0 = c.requires.day_in in let d1 = c.requires.order in let d2 = c.requires.end_in in
    let year = week_year-calendar c.args.day d0 (omega (arith, signed_arith, d1, d2)) in
    let y0 = year.0 in let y1 = year.1 in
    let of = c.requires.of in
    omega (arith, signed_arith, of, y0, y1)

pub returns-in-Some-clause-none : goal.returns-in-Some-clause-none
returns-in-Some-clause-none c =
    let day : to_z w64 (of_z w64 c.args.day) ≡ c.args.day = to_z-of_z c.ranges.day in
    let end : to_z w64 (of_z w64 c.args.end) ≡ c.args.end = to_z-of_z c.ranges.end in
    let given : to_z w64 (of_z w64 c.from.result) ≡ pos c.in-Some.year = omega (arith, signed_arith) in
    let fits : FitsSigned w64 c.unwrap_or.result = search rules in
    let back : to_z w64 (of_z w64 c.unwrap_or.result) ≡ c.unwrap_or.result = to_z-of_z fits in
    rw back (λ n. given-week c.args.start.now c.args.week c.in-Some.year c.args.day n c.args.end c.unwrap_or.result
    c.next_of_week.result c.requires.week c.in-Some.is (rw (given, day) at c.next_of_week.ensures.next)
    (rw end at c.unwrap_or.ensures) c.requires.day_in c.requires.end_in)

pub returns-in-Some-next_of_week-clause-none : goal.returns-in-Some-next_of_week-clause-none
returns-in-Some-next_of_week-clause-none c =
    let next = rw (to_z-of_z c.ranges.of, to_z-of_z c.ranges.day, c.requires.of, c.in-Some-next_of_week.is)
    at c.next_of_week-in-None.ensures.next in
    let fits : FitsSigned w64 c.in-Some-next_of_week.next = search rules in
    rw (to_z-of_z fits) (λ n gt lt less. this-week c.args.start.now c.args.week c.args.day n _ c.requires.week next gt lt)

pub returns-in-None-next_of_week-clause-none : goal.returns-in-None-next_of_week-clause-none
returns-in-None-next_of_week-clause-none c =
    let d0 = c.requires.day_in in let d1 = c.requires.order in let d2 = c.requires.end_in in
    let year = week_year-calendar c.args.day d0 (omega (arith, signed_arith, d1, d2)) in
    let y0 = year.0 in let y1 = year.1 in
    let is = c.requires.of in
    let day : to_z w64 (of_z w64 c.args.day) ≡ c.args.day = to_z-of_z c.ranges.day in
    let end : to_z w64 (of_z w64 c.args.end) ≡ c.args.end = to_z-of_z c.ranges.end in
    let of : to_z w64 (of_z w64 c.args.of) ≡ c.args.of = to_z-of_z c.ranges.of in
    let next : to_z w64 (of_z w64 (c.args.of +ℤ pos 1)) ≡ c.args.of +ℤ pos 1 = omega (arith, signed_arith, is, y0, y1) in
    let fits : FitsSigned w64 c.unwrap_or-in-None-next_of_week.result = search rules in
    let back : to_z w64 (of_z w64 c.unwrap_or-in-None-next_of_week.result) ≡ c.unwrap_or-in-None-next_of_week.result =
    to_z-of_z fits in
    rw back (λ n. next-week c.args.start.now c.args.week c.args.day n c.args.end c.unwrap_or-in-None-next_of_week.result
    c.next_of_week-in-None-next_of_week.result c.requires.week_in.0 c.requires.week
    (rw (of, day, is, c.in-None-next_of_week.is) at c.next_of_week-in-None.ensures.next)
    (rw (of, next, day, is) at c.next_of_week-in-None-next_of_week.ensures.next)
    (rw end at c.unwrap_or-in-None-next_of_week.ensures) c.requires.day_in c.requires.end_in)
