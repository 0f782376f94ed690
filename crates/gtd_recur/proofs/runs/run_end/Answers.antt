-- A start up to the end reached belongs to the run, and with it the starts of its day that lie close enough; the first
-- start after the end does not.
use Rattle.std.proofs.Common.{◌≡◌, ◌∙◌, ap, sym, arith, ◌≤ℤ◌, ◌<ℤ◌, refl, pos, ◌+ℤ◌, ℤ, List, length}
use Rattle.gtd_calendar.specs.facts.Signed.{signed_arith}
use Rattle.gtd_core.specs.Parts.{duration_parts}
use Rattle.gtd_recur.proofs.AscendingLemmas.{after-weaken, before-weaken, ascending-after}
use Rattle.gtd_recur.proofs.GivenLemmas.{before-append, at_most-some, at_most-none, given-up_to, same-all}
use Rattle.gtd_recur.proofs.StretchLemmas.{run-begun, gt-is, le-is}
use Rattle.std.proofs.lemmas.List.{length-append}
use Rattle.gtd_calendar.specs.ComputedEnds.{stop}
use Rattle.gtd_recur.specs.Walking.{walk_to_come, walk_given}
use Rattle.gtd_recur.proofs.PassLemmas.{run-day, after-rest, given-many, stepped-before, are-near, last-near}
use Rattle.gtd_recur.proofs.runs.run_end.Goals as goal

pub returns-then-gt-clause-after : goal.returns-then-gt-clause-after
returns-then-gt-clause-after c =
    let asc = rw c.in-Some.ensures.takes at c.loop-start.invariant.ascending in
    let late : c.loop-start.end.0 <ℤ c.in-Some.start.0 = gt-is _ _ (sym c.gt.ensures ∙ c.if-gt.true) in
    (late, after-weaken c.in-Some.start.0 c.loop-start.end.0 _ (omega (arith, signed_arith, late)) asc.1.0)

pub loop-start-preserved : goal.loop-start-preserved
loop-start-preserved c =
    let q = duration_parts c.args.duration.now in
    let at = c.loop-start.invariant.ascending in
    let asc = rw c.in-Some.ensures.takes at at in
    let run = rw c.in-Some.ensures.takes at c.loop-start.invariant.run in
    let reached : c.in-Some.start.0 ≤ℤ c.loop-start.end.0 = le-is _ _ (sym c.gt.ensures ∙ c.if-gt.false) in
    let b = c.in-Some.start.0 in
    let last = c.pass_day-last.result.0 in
    let passed = c.pass_day-last.ensures.passed in
    let same = c.loop-start.invariant.same in
    let next = c.in-Some.ensures.same in
    let all = rw passed.split at asc in
    let stop_is : c.end_of-reached.result.0 ≡ stop q b = c.end_of-reached.ensures.value in
    let t = c.pass_day-last.new.self in
    let near = are-near c.args.duration.now _ _ c.in-Some.ensures.calendar c.end_of-reached.ensures.later
    c.end_of-reached.ensures.within_bound in
    let far = last-near q b _ last _ _ _ near c.end_of-reached.ensures.value passed in
    let ends = rw (far.stop_is) at c.later-end.ensures in
    let step_in = rw (near.start_is, near.end_is, near.length_is) at passed.near in
    record {
      run = run-day q _ (walk_to_come t) c.args.first.0 c.loop-start.end.0 b last c.later-end.result.0 passed.step passed.list
          (rw passed.split at run) (let z = asc.0.0 in omega (arith, signed_arith, z)) reached
          (rw stop_is at step_in) passed.stepped passed.day ends;
      ascending = (
        after-rest c.args.first.0 passed.list (walk_to_come t) all.0.1,
        ascending-after passed.list (walk_to_come t) all.1.1,
      );
      fewer = (let long = ap (λ (l : List ℤ). length l) c.in-Some.ensures.takes in
          let many = ap (λ (l : List ℤ). length l) passed.split in let both = length-append passed.list (walk_to_come t) in
          let most = c.loop-start.invariant.fewer in omega (arith, long, many, both, most));
      given = (let whole = given-many c.next.new.self t passed.list passed.same passed.split in
          let l0 = ends.0 in let l1 = ends.1 in let after = far.after in
          rw whole (before-append _ (walk_given c.next.new.self) passed.list
          (given-up_to c.loop-start.walk c.next.new.self c.loop-start.end.0 b next c.in-Some.ensures.takes
          c.loop-start.invariant.given c.later-end.result.0 l0 (omega (arith, signed_arith, reached, l0)))
          (before-weaken (last +ℤ pos 1) _ passed.list (omega (arith, signed_arith, l1, after))
          (stepped-before passed.step b passed.list last passed.stepped))));
      grows = (let a = c.loop-start.invariant.grows in let b = c.in-Some.ensures.grows in let d = passed.grows in
          omega (arith, a, b, d));
      same = record {
        basic = passed.same.basic ∙ next.basic ∙ same.basic;
        horizon = passed.same.horizon ∙ next.horizon ∙ same.horizon;
        first = passed.same.first ∙ next.first ∙ same.first;
        seen = passed.same.seen ∙ next.seen ∙ same.seen;
      };
    }

pub overflow_sub-reached : goal.overflow_sub-reached
overflow_sub-reached c =
    let near = are-near c.args.duration.now _ _ c.in-Some.ensures.calendar c.end_of-reached.ensures.later
    c.end_of-reached.ensures.within_bound in
    omega (arith, signed_arith, near)

pub pass_day-last-requires-clause-length_in : goal.pass_day-last-requires-clause-length_in
pass_day-last-requires-clause-length_in c =
    let near = are-near c.args.duration.now _ _ c.in-Some.ensures.calendar c.end_of-reached.ensures.later
    c.end_of-reached.ensures.within_bound in
    let order = near.order in
    rw (near.start_is, near.end_is, near.length_is) (omega (arith, signed_arith, order))

pub overflow_sub-last : goal.overflow_sub-last
overflow_sub-last c =
    let far = last-near _ _ _ _ _ _ _ (are-near c.args.duration.now _ _ c.in-Some.ensures.calendar c.end_of-reached.ensures.later
    c.end_of-reached.ensures.within_bound) c.end_of-reached.ensures.value c.pass_day-last.ensures.passed in
    omega (arith, signed_arith, far)

pub overflow_add-reached : goal.overflow_add-reached
overflow_add-reached c =
    let far = last-near _ _ _ _ _ _ _ (are-near c.args.duration.now _ _ c.in-Some.ensures.calendar c.end_of-reached.ensures.later
    c.end_of-reached.ensures.within_bound) c.end_of-reached.ensures.value c.pass_day-last.ensures.passed in
    omega (arith, signed_arith, far)

pub loop-start-init : goal.loop-start-init
loop-start-init c =
    record {
      run = run-begun (duration_parts c.args.duration.now) c.args.first.0 c.end_of-end.result.0 _ c.end_of-end.ensures.later
          c.end_of-end.ensures.value;
      ascending = c.requires.ascending;
      fewer = omega arith;
      given = before-weaken (c.args.first.0 +ℤ pos 1) (c.end_of-end.result.0 +ℤ pos 1) _
          (let later = c.end_of-end.ensures.later in omega (arith, signed_arith, later)) c.requires.counted;
      grows = omega arith;
      same = record { basic = refl; horizon = refl; first = refl; seen = refl };
    }

pub returns-in_default-clause-at_most : goal.returns-in_default-clause-at_most
returns-in_default-clause-at_most c =
    let s = c.loop-start.walk in
    let all = same-all c.args.walk.now s c.loop-start.invariant.same in
    λ b has late seen. absurd (at_most-none s c.loop-start.end.0 c.in_default.ensures.takes.0 c.loop-start.invariant.given b
    (rw all at has) late)

pub returns-then-gt-clause-counted_ahead : goal.returns-then-gt-clause-counted_ahead
returns-then-gt-clause-counted_ahead c =
    let s = c.loop-start.walk in
    let next = c.in-Some.ensures.same in
    let late : c.loop-start.end.0 <ℤ c.in-Some.start.0 = gt-is _ _ (sym c.gt.ensures ∙ c.if-gt.true) in
    let least = c.in-Some.ensures.at_least in (
      given-up_to s c.next.new.self c.loop-start.end.0 c.in-Some.start.0 next c.in-Some.ensures.takes c.loop-start.invariant.given
          c.in-Some.start.0 (omega (arith, signed_arith, late)) (omega (arith, signed_arith)),
      rw (next.basic, next.horizon, next.first) (omega (arith, least)),
    )

pub returns-then-gt-clause-at_most : goal.returns-then-gt-clause-at_most
returns-then-gt-clause-at_most c =
    let s = c.loop-start.walk in
    let same = c.loop-start.invariant.same in
    let next = c.in-Some.ensures.same in
    rw (same.basic, same.horizon, same.first, same.seen) at (at_most-some s c.next.new.self c.loop-start.end.0
    c.in-Some.start.0 next c.in-Some.ensures.takes c.loop-start.invariant.given c.in-Some.ensures.at_most)
