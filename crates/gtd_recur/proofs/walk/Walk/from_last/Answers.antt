-- A walk from the last day with a start before the horizon: the days looked at backwards are counted, and that day
-- is open with all its starts to come.
use Rattle.std.proofs.Common.{◌≡◌, ◌+◌, arith, rules}
use Rattle.gtd_calendar.specs.facts.Signed.{signed_arith}
use Rattle.gtd_core.specs.Parts.{start_parts}
use Rattle.gtd_core.specs.Whole.{from_day}
use Rattle.gtd_recur.specs.Work.{window_begin}
use Rattle.gtd_recur.proofs.FreshWalk.{window-computed, fresh-behind}
use Rattle.gtd_recur.proofs.StepLemmas.{behind-look}
use Rattle.gtd_recur.proofs.walk.Walk.from_last.Goals as goal

pub invariant_of-result : goal.invariant_of-result
invariant_of-result c =
    let d = c.args.basic in let h = c.args.horizon in let start = c.parts-start.ensures.value in
    let w = window-computed d h c.from_day-seen.result c.from.result c.lookback.result c.from_day-seen.ensures.value
    (omega (arith, signed_arith)) c.lookback.ensures.bound c.lookback.ensures.value in
    let look = c.first_look-look.result in let days = c.next_days-days.result in
    let k = fresh-behind d h _ c.from_day-seen.result c.from.result c.to_day.result look.first look.day days.from days.until
    look.clock look.looked w start c.to_day.ensures.value c.first_look-look.ensures.look c.next_days-days.ensures.run in
    let clocked = rw start at c.day_clocks.ensures.clocks in
    record {
      first_in = k.fresh.first_in;
      seen_in = k.fresh.seen_in;
      clock_in = k.fresh.clock_in;
      asked = rw start at c.asked.ensures.asked;
      clocked = clocked;
      behind = behind-look (start_parts d.start) (window_begin d h) (from_day h) _ _ _ _ _ _ _ clocked k.look;
      in_window = k.fresh.in_window;
      fitting = k.fresh.fitting;
      left = k.fresh.left;
      counted = k.fresh.counted;
    }

pub returns : goal.returns
returns c =
    let w = window-computed c.args.basic c.args.horizon c.from_day-seen.result c.from.result c.lookback.result
    c.from_day-seen.ensures.value (omega (arith, signed_arith)) c.lookback.ensures.bound c.lookback.ensures.value in
    let look = c.first_look-look.result in let days = c.next_days-days.result in
    let k = fresh-behind c.args.basic c.args.horizon _ c.from_day-seen.result c.from.result c.to_day.result look.first look.day
    days.from days.until look.clock look.looked w c.parts-start.ensures.value c.to_day.ensures.value
    c.first_look-look.ensures.look c.next_days-days.ensures.run in
    let all : c.first_look-look.result.looked + 0 ≡ c.first_look-look.result.looked = omega arith in
    record {
      basic = search rules;
      horizon = search rules;
      first = rw (k.first_is, all) k.look.at;
      to_come = k.fresh.left.rest;
      none_handed = search rules;
    }
