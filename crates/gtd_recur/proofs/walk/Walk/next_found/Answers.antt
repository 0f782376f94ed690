-- By what the start asks for: each day fits, or its weekday decides, or its date must be looked at.
use Rattle.std.proofs.Common.{arith}
use Rattle.gtd_calendar.specs.facts.Signed.{signed_arith}
use Rattle.gtd_recur.proofs.SmallLemmas.{walk-day}
use Rattle.gtd_recur.proofs.walk.Walk.next_found.Goals as goal

pub next_weekday-requires-clause-asks : goal.next_weekday-requires-clause-asks
next_weekday-requires-clause-asks c =
    let s = c.args.self.now in
    let asked = rw (c.in-Weekday.is) at s.asked in
    rw (c.as_parts-start.ensures.value) asked

pub returns-in-Nothing : goal.returns-in-Nothing
returns-in-Nothing c =
    let s = c.args.self.now in
    let more = s.fitting.some c.requires.more in let end = s.fitting.within in
    let next = walk-day s s.next_day (omega (arith, signed_arith)) (omega (arith, signed_arith, more, end)) in
    let asked = rw (c.in-Nothing.is) at s.asked in
    rw (next.is) (record {
      found = record {
        low = omega (arith, signed_arith);
        high = omega (arith, signed_arith, more);
        none = λ n ge lt. absurd (omega (arith, signed_arith, ge, lt));
        some = λ lt. asked s.next_day;
      };
    })
