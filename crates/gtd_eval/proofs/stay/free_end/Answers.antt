-- Up to the next start nothing begins, so that a start whose stretch holds its second is the change.
use Rattle.std.proofs.Common.{arith, rules, FitsSigned, to_z-of_z, w64}
use Rattle.std.proofs.lemmas.Int.{ints}
use Rattle.gtd_core.specs.Parts.{start_parts, duration_parts}
use Rattle.gtd_core.specs.Whole.{whole}
use Rattle.gtd_eval.proofs.StayEnds.{before-day, day-before, end-at-start, end-without-start}
use Rattle.gtd_eval.proofs.stay.free_end.Goals as goal

pub next_start-requires-clause-second_in : goal.next_start-requires-clause-second_in
next_start-requires-clause-second_in c =
    let h = c.args.horizon in
    let inside = c.requires.inside in
    let early = h.not_early in
    let late = h.not_late in
    (omega (arith, ints, inside.0, early), omega (arith, ints, inside.1, late))

pub next_start-requires-clause-order : goal.next_start-requires-clause-order
next_start-requires-clause-order c =
    let last : FitsSigned w64 c.to_day.result = search rules in
    rw (to_z-of_z last, c.to_day.ensures.value) (day-before c.args.second.0 c.args.horizon.to_day c.requires.inside.1)

pub next_start-requires-clause-to_day_in : goal.next_start-requires-clause-to_day_in
next_start-requires-clause-to_day_in c =
    let last : FitsSigned w64 c.to_day.result = search rules in
    rw (to_z-of_z last, c.to_day.ensures.value) c.args.horizon.not_late

pub returns-in_default : goal.returns-in_default
returns-in_default c =
    let basic = c.args.basic.now in
    let last : FitsSigned w64 c.to_day.result = search rules in
    let none = rw (c.as_parts.ensures.value, to_z-of_z last, c.to_day.ensures.value) at c.in_default.ensures.next in
    rw (c.until.ensures.value) (record {
      end = end-without-start (start_parts basic.start) (duration_parts basic.duration) c.args.second.0 c.requires.free
          c.args.horizon.to_day none c.requires.inside.1;
    })

pub covers-requires : goal.covers-requires
covers-requires c =
    let h = c.args.horizon in
    let inside = c.requires.inside in
    let early = h.not_early in
    let late = h.not_late in
    let last : FitsSigned w64 c.to_day.result = search rules in
    let next = c.in-Some.ensures.next in
    let later = next.later in
    let before = before-day c.in-Some.begin.0 h.to_day
    (rw (to_z-of_z last, c.to_day.ensures.value) at c.in-Some.ensures.before) in
    record { horizon = (omega (arith, ints, inside.0, early, later), omega (arith, ints, before, late)) }

pub returns-then-covers : goal.returns-then-covers
returns-then-covers c =
    let basic = c.args.basic.now in
    let last : FitsSigned w64 c.to_day.result = search rules in
    let before = before-day c.in-Some.begin.0 c.args.horizon.to_day
    (rw (to_z-of_z last, c.to_day.ensures.value) at c.in-Some.ensures.before) in
    record {
      end = end-at-start (start_parts basic.start) (duration_parts basic.duration) c.args.second.0 c.requires.free
          c.in-Some.begin.0 (whole c.args.horizon).until (rw (c.as_parts.ensures.value) at c.in-Some.ensures.next)
          (c.covers.ensures.member.0 c.if-covers.true) before;
    }
