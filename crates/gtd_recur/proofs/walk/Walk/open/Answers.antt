-- The days before the opened one have no start, so the list to come stays the same while the count of days grows.
use Rattle.std.proofs.Common.{arith, rules}
use Rattle.gtd_core.specs.Parts.{start_parts}
use Rattle.gtd_recur.specs.facts.StartsLemmas.{opened-low, small-counts}
use Rattle.gtd_recur.proofs.StepLemmas.{behind-opened}
use Rattle.gtd_recur.proofs.OpenedWalk.{opened-walk, days-passed}
use Rattle.gtd_recur.proofs.walk.Walk.open.Goals as goal

pub overflow_add-self-2 : goal.overflow_add-self-2
overflow_add-self-2 c =
    let s = c.args.self.now in
    let counts = small-counts (start_parts s.basic.start) s.first s.seen s.day s.next_day _ s.looked s.handed _ s.in_window
    s.counted s.left in
    let k = days-passed s c.args.day c.requires.low c.requires.high in
    rw (k.is) (omega (arith, counts.2, k.few))

pub invariant_of-self : goal.invariant_of-self
invariant_of-self c =
    let s = c.args.self.now in let opened = c.requires.opened in
    let p = start_parts s.basic.start in
    let k = opened-walk s c.args.day _ _ c.args.clock c.requires.low c.requires.high c.requires.none c.requires.done opened
    c.days_after-after.ensures.run in
    record {
      first_in = s.first_in;
      seen_in = s.seen_in;
      clock_in = opened-low p c.args.day c.args.clock opened;
      asked = s.asked;
      clocked = s.clocked;
      behind = behind-opened p c.args.day s.clocks.first s.clocks.last s.clocks.step c.args.clock s.clocked opened;
      in_window = k.in_window;
      fitting = k.fitting;
      left = rw (k.same) s.left;
      counted = k.counted;
    }

pub returns : goal.returns
returns c =
    let s = c.args.self.now in
    let k = opened-walk s c.args.day _ _ c.args.clock c.requires.low c.requires.high c.requires.none c.requires.done
    c.requires.opened c.days_after-after.ensures.run in
    record { left = k.same; same = search rules; later = k.later; grows = search rules }
