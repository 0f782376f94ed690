-- No stretch from a day before the walk ends later than the last of its first day, so no run of the horizon is lost.
use Rattle.std.proofs.Common.{◌≡◌, ◌∙◌, [], ap, ℕ, refl, arith}
use Rattle.std.specs.Prelude.{take}
use Rattle.gtd_core.specs.Parts.{start_parts, duration_parts}
use Rattle.gtd_core.specs.Whole.{from_day, to_day}
use Rattle.gtd_core.specs.Ranges.{lookback_of}
use Rattle.gtd_recur.specs.Work.{window_begin}
use Rattle.gtd_recur.specs.Walking.{walk_all, walk_given, walk_to_come, walk_ticks}
use Rattle.gtd_recur.specs.Ascending.{IsAscending}
use Rattle.gtd_recur.specs.Stretches.{starts_ahead}
use Rattle.gtd_recur.proofs.AscendingLemmas.{window-ascending}
use Rattle.gtd_recur.proofs.GivenLemmas.{counted-first, horizon-order, same-all}
use Rattle.gtd_recur.proofs.HorizonLemmas.{starts_ahead-is, ahead-in}
use Rattle.gtd_recur.proofs.LookLemmas.{look-runs, first-look}
use Rattle.gtd_recur.specs.facts.StartsLemmas.{window_begin-is}
use Rattle.gtd_recur.proofs.runs.Runs.new.Goals as goal

pub invariant_of-result : goal.invariant_of-result
invariant_of-result c =
    let v = c.from_last-walk.result in
    let s = c.next-ahead.new.self in
    let all : starts_ahead c.next-ahead.result (walk_to_come s) ≡ walk_all s =
    starts_ahead-is _ _ _ c.next-ahead.ensures.takes ∙ c.from_last-walk.ensures.to_come
    ∙ same-all v s c.next-ahead.ensures.same in
    let nothing : walk_given v ≡ [] = ap (λ (k : ℕ). take k (walk_all v)) c.from_last-walk.ensures.none_handed in
    let ascending : IsAscending (starts_ahead c.next-ahead.result (walk_to_come s)) =
    rw all (window-ascending (start_parts s.basic.start) s.first (to_day s.horizon)) in
    let counted =
    counted-first v s c.next-ahead.result c.next-ahead.ensures.same nothing c.next-ahead.ensures.takes
    c.next-ahead.ensures.at_least in
    record {
      start = record {
        basic = refl;
        horizon = refl;
        ascending = ascending;
        ahead_in = ahead-in _ c.next-ahead.ensures.calendar;
        counted = counted;
        fewer = omega arith;
      };
      ascending = ascending;
      ahead_in = ahead-in _ c.next-ahead.ensures.calendar;
      counted = counted;
    }

pub returns-clause-normal : goal.returns-clause-normal
returns-clause-normal c =
    let h = c.args.horizon in
    let d = c.args.basic in
    let v = c.from_last-walk.result in
    let s = c.next-ahead.new.self in
    let same = c.next-ahead.ensures.same in
    let all : starts_ahead c.next-ahead.result (walk_to_come s) ≡ walk_all v =
    starts_ahead-is _ _ _ c.next-ahead.ensures.takes ∙ c.from_last-walk.ensures.to_come in
    let basic : s.basic ≡ d = same.basic ∙ c.from_last-walk.ensures.basic in
    let horizon : s.horizon ≡ h = same.horizon ∙ c.from_last-walk.ensures.horizon in
    let look = first-look (start_parts d.start) (window_begin d h) (from_day h) v.first
    (lookback_of (duration_parts d.duration)) (walk_ticks v) (window_begin-is d h) c.from_last-walk.ensures.first in
    rw (all, basic, horizon, c.from_last-walk.ensures.basic, c.from_last-walk.ensures.horizon)
    (look-runs (start_parts d.start) (duration_parts d.duration) v.first (from_day h) (to_day h) _ look.0 (horizon-order h)
    look.1)

pub returns-clause-basic : goal.returns-clause-basic
returns-clause-basic c = c.next-ahead.ensures.same.basic ∙ c.from_last-walk.ensures.basic

pub returns-clause-horizon : goal.returns-clause-horizon
returns-clause-horizon c = c.next-ahead.ensures.same.horizon ∙ c.from_last-walk.ensures.horizon
