-- The next clock of the open day is the head of the list; one more is handed out, and the counts stay in their bounds.
use Rattle.std.proofs.Common.{◌≡◌, arith, pos, ◌+ℤ◌, refl, rules, Some, ◌*ℤ◌}
use Rattle.gtd_calendar.specs.facts.Signed.{signed_arith}
use Rattle.gtd_core.specs.Parts.{start_parts}
use Rattle.gtd_core.specs.Whole.{to_day}
use Rattle.gtd_calendar.specs.facts.ClockLemmas.{second-only}
use Rattle.gtd_recur.proofs.CountLemmas.{at_least}
use Rattle.gtd_recur.proofs.ExactLemmas.{at_most, exact}
use Rattle.gtd_recur.proofs.PassedDay.{open-second}
use Rattle.gtd_recur.specs.facts.StartsLemmas.{taken-left, clock_starts-none, handed-one, small-counts}
use Rattle.gtd_recur.specs.Begins.{begins_at}
use Rattle.gtd_recur.proofs.StepLemmas.{behind-start}
use Rattle.gtd_recur.proofs.walk.Walk.next_of_day.Goals as goal

pub overflow_add-self-in-Some : goal.overflow_add-self-in-Some
overflow_add-self-in-Some c =
    let s = c.args.self.now in
    let small = small-counts (start_parts s.basic.start) s.first s.seen s.day s.next_day
    (to_day s.horizon) s.looked s.handed _ s.in_window s.counted s.left in
    omega (arith, small.3)

pub invariant_of-self : goal.invariant_of-self
invariant_of-self c =
    let s = c.args.self.now in
    let next : c.next_clock.result ≡ Some c.in-Some.clock = c.in-Some.is in
    let found = rw next at c.next_clock.ensures.next in
    record {
      first_in = s.first_in;
      seen_in = s.seen_in;
      clock_in = omega (arith, found.1);
      asked = s.asked;
      clocked = s.clocked;
      behind = behind-start (begins_at (start_parts s.basic.start)) s.clocks.first s.clocks.last c.in-Some.clock found.2;
      in_window = s.in_window;
      fitting = s.fitting;
      left = handed-one s.handed _ _ _ (pos 86400 *ℤ s.day +ℤ pos c.in-Some.clock) s.left
          (taken-left (start_parts s.basic.start) s.day s.next_day (to_day s.horizon) s.clock c.in-Some.clock found);
      counted = s.counted;
    }

pub returns-in-None-clause-none : goal.returns-in-None-clause-none
returns-in-None-clause-none c =
    let s = c.args.self.now in
    let found = rw (c.in-None.is) at c.next_clock.ensures.next in
    λ none. (refl, clock_starts-none (start_parts s.basic.start) s.day s.clock s.clock_in found)

pub returns-in-Some : goal.returns-in-Some
returns-in-Some c =
    let s = c.args.self.now in
    let p = start_parts s.basic.start in
    let end = to_day s.horizon in
    let k = c.in-Some.clock in
    let w = s.in_window in
    let found = rw (c.in-Some.is) at c.next_clock.ensures.next in
    let on = (second-only _ s.day k found.1 refl).0 in
    let taken = taken-left p s.day s.next_day end s.clock k found in
    let left = rw taken at s.left in
    let plain = open-second s k c.from.result (omega (arith, signed_arith)) found.1 in
    rw plain (record {
      takes = taken;
      none = search rules;
      same = search rules;
      at_most = λ t le last. at_most p s.first s.seen s.day s.next_day end _ t s.looked s.handed _ on w s.counted left le last;
      at_least = at_least p s.first s.seen s.day s.next_day end _ s.looked s.handed _ on w s.counted left;
      exact = λ same. exact p s.first s.day s.next_day end _ s.looked s.handed _ on w (rw same at s.counted) left;
      begun = rw on w.day_in;
      rises = omega arith;
      grows = omega arith;
      calendar = rw on (
        omega (arith, signed_arith, w.first_in, w.day_in),
        omega (arith, signed_arith, w.next_in, w.end_in, w.last_in),
      );
      next_day = refl;
      «open» = record { clock = k; next = refl; low = found.1; is = refl; begins = found.2 };
    })
