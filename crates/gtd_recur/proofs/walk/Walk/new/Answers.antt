-- A walk from the first day of the lookback: nothing is looked at, nothing is handed out, all starts are to come.
use Rattle.std.proofs.Common.{arith, rules}
use Rattle.gtd_calendar.specs.facts.Signed.{signed_arith}
use Rattle.gtd_recur.proofs.FreshWalk.{window-computed, fresh-whole}
use Rattle.gtd_recur.proofs.StepLemmas.{behind-all}
use Rattle.gtd_recur.proofs.walk.Walk.new.Goals as goal

pub overflow_sub-result : goal.overflow_sub-result
overflow_sub-result c =
    let w = window-computed c.args.basic c.args.horizon c.from_day.result c.from.result c.lookback.result
    c.from_day.ensures.value (omega (arith, signed_arith)) c.lookback.ensures.bound c.lookback.ensures.value in
    rw (w.begin) (omega (arith, signed_arith, w.low, w.order, w.high))

pub invariant_of-result : goal.invariant_of-result
invariant_of-result c =
    let w = window-computed c.args.basic c.args.horizon c.from_day.result c.from.result c.lookback.result
    c.from_day.ensures.value (omega (arith, signed_arith)) c.lookback.ensures.bound c.lookback.ensures.value in
    let fresh = fresh-whole c.args.basic c.args.horizon _ _ _ _ _ _ w c.parts-start.ensures.value c.to_day.ensures.value
    c.next_days-days.ensures.run in
    let clocked = rw c.parts-start.ensures.value at c.day_clocks.ensures.clocks in
    record {
      first_in = fresh.first_in;
      seen_in = fresh.seen_in;
      clock_in = omega arith;
      asked = rw c.parts-start.ensures.value at c.asked.ensures.asked;
      clocked = clocked;
      behind = behind-all _ _ _ _ clocked;
      in_window = fresh.in_window;
      fitting = fresh.fitting;
      left = fresh.left;
      counted = fresh.counted;
    }

pub returns : goal.returns
returns c =
    let d = c.args.basic in let h = c.args.horizon in
    let w = window-computed d h c.from_day.result c.from.result c.lookback.result c.from_day.ensures.value
    (omega (arith, signed_arith)) c.lookback.ensures.bound c.lookback.ensures.value in
    let fresh = fresh-whole d h _ _ _ _ _ _ w c.parts-start.ensures.value c.to_day.ensures.value c.next_days-days.ensures.run in
    record {
      basic = search rules;
      horizon = search rules;
      first = w.begin;
      seen = search rules;
      to_come = fresh.left.rest;
      ticks = search rules;
      none_handed = search rules;
    }
