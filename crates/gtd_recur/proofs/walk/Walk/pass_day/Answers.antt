-- The starts up to the last of the day leave the list at once, as many as steps fit between the clocks.
use Rattle.std.proofs.Common.{◌≡◌, ◌+◌, arith, to_z, of_z, w64, refl, to_z-of_z, ◌∙◌}
use Rattle.gtd_calendar.specs.facts.Signed.{signed_arith}
use Rattle.gtd_core.specs.Parts.{start_parts}
use Rattle.gtd_recur.specs.Begins.{begins_at}
use Rattle.gtd_recur.specs.Starts.{clock_starts}
use Rattle.gtd_recur.proofs.PassedDay.{are-passed, open-second}
use Rattle.gtd_recur.proofs.StepLemmas.{behind-all, handed-many}
use Rattle.gtd_recur.proofs.walk.Walk.pass_day.Goals as goal

pub overflow_sub-clocks : goal.overflow_sub-clocks
overflow_sub-clocks c =
    let k = are-passed c.args.self.now c.args.start.0 c.requires.open in
    let low = k.low in
    omega (arith, low)

pub overflow_add-self : goal.overflow_add-self
overflow_add-self c =
    let k = are-passed c.args.self.now c.args.start.0 c.requires.open in
    let few = k.few in let count = c.from-2.ensures ∙ k.count in
    omega (arith, few, count)

pub invariant_of-self : goal.invariant_of-self
invariant_of-self c =
    let s = c.args.self.now in
    let k = are-passed s c.args.start.0 c.requires.open in
    record {
      first_in = s.first_in;
      seen_in = s.seen_in;
      clock_in = omega arith;
      asked = s.asked;
      clocked = s.clocked;
      behind = behind-all (begins_at (start_parts s.basic.start)) s.clocks.first s.clocks.last s.clocks.step s.clocked;
      in_window = s.in_window;
      fitting = s.fitting;
      left = rw (c.from-2.ensures ∙ k.count) (handed-many s.handed _ _ _ _ s.left k.split);
      counted = s.counted;
    }

pub overflow_add-result : goal.overflow_add-result
overflow_add-result c =
    let s = c.args.self.now in
    let w = s.in_window in
    let e = c.from-3.ensures in
    let end = s.clocked.end in
    let most = end.0 in
    omega (arith, signed_arith, w.first_in, w.day_in, w.next_in, w.end_in, w.last_in, e, most)

pub returns : goal.returns
returns c =
    let s = c.args.self.now in
    let k = are-passed s c.args.start.0 c.requires.open in
    rw (open-second s s.clocks.last c.from-3.result (omega (arith, signed_arith)) k.last) (record {
      passed = record {
        step = s.clocks.step;
        list = clock_starts (start_parts s.basic.start) s.day (c.requires.open.clock + 1);
        split = k.split;
        stepped = k.stepped;
        near = (let plain : to_z w64 (of_z w64 c.args.length) ≡ c.args.length = to_z-of_z c.ranges.length in
            let f = c.from.ensures in let b = c.if-length-from.false in omega (arith, signed_arith, plain, f, b));
        day = k.day;
        same = record { basic = refl; horizon = refl; first = refl; seen = refl };
        grows = omega arith;
      };
    })
