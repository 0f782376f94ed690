-- A day that does not fit has no start, nor one whose clock fits no more; otherwise its next clock makes the start.
use Rattle.std.proofs.Common.{◌≡◌, ◌∙◌, sym, refl, arith, rules, pos, ◌+ℤ◌, ◌*ℤ◌, FitsSigned, to_z, of_z, to_z-of_z, w64}
use Rattle.gtd_calendar.specs.facts.Signed.{signed_arith}
use Rattle.gtd_calendar.specs.facts.ClockLemmas.{second-only}
use Rattle.gtd_core.specs.Seconds.{day_of_second}
use Rattle.gtd_recur.proofs.ChangeLemmas.{next-on-day, none-at-clock, none-on-day}
use Rattle.gtd_recur.proofs.CoverLemmas.{horizon-day}
use Rattle.gtd_recur.proofs.changes.start_today.Goals as goal

pub returns-then-not-begins_on_day-clause-next : goal.returns-then-not-begins_on_day-clause-next
returns-then-not-begins_on_day-clause-next c =
    let fits : FitsSigned w64 c.day-today.result = search rules in
    let today : to_z w64 (of_z w64 c.day-today.result) ≡ day_of_second c.args.second.0 =
    to_z-of_z fits ∙ c.day-today.ensures.value in
    none-on-day c.args.start.now c.args.second.0 (sym (rw today at c.if-not-begins_on_day.ensures))

pub returns-in_default-clause-next : goal.returns-in_default-clause-next
returns-in_default-clause-next c =
    none-at-clock c.args.start.now c.args.second.0 (rw (c.second_of_day.ensures.value) at c.in_default.ensures.next)

pub returns-clause-next : goal.returns-clause-next
returns-clause-next c =
    let fits : FitsSigned w64 c.day-today.result = search rules in
    let today : to_z w64 (of_z w64 c.day-today.result) ≡ day_of_second c.args.second.0 =
    to_z-of_z fits ∙ c.day-today.ensures.value in
    let near = horizon-day c.args.second.0 c.requires.second_in in
    let next = rw (c.second_of_day.ensures.value) at c.in-Some.ensures.next in
    let low = next.1 in
    let plain : to_z w64 (of_z w64 (to_z w64 (of_z w64 (pos 86400 *ℤ to_z w64 (of_z w64 c.day-today.result)))
    +ℤ to_z w64 (of_z w64 c.from.result))) ≡ pos 86400 *ℤ day_of_second c.args.second.0 +ℤ pos c.in-Some.clock =
    omega (arith, signed_arith, today, near.0, near.1, low) in
    rw plain (next-on-day c.args.start.now c.args.second.0 c.in-Some.clock
    (sym (rw today at c.if-not-begins_on_day.ensures)) next)

pub returns-clause-today : goal.returns-clause-today
returns-clause-today c =
    let fits : FitsSigned w64 c.day-today.result = search rules in
    let today : to_z w64 (of_z w64 c.day-today.result) ≡ day_of_second c.args.second.0 =
    to_z-of_z fits ∙ c.day-today.ensures.value in
    let near = horizon-day c.args.second.0 c.requires.second_in in
    let next = rw (c.second_of_day.ensures.value) at c.in-Some.ensures.next in
    let low = next.1 in
    let plain : to_z w64 (of_z w64 (to_z w64 (of_z w64 (pos 86400 *ℤ to_z w64 (of_z w64 c.day-today.result)))
    +ℤ to_z w64 (of_z w64 c.from.result))) ≡ pos 86400 *ℤ day_of_second c.args.second.0 +ℤ pos c.in-Some.clock =
    omega (arith, signed_arith, today, near.0, near.1, low) in
    rw plain (second-only _ (day_of_second c.args.second.0) c.in-Some.clock low refl).0
