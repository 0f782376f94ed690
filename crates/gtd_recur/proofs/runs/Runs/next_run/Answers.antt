-- Runs that end before the horizon are passed over; the first with a part in it is the next of the list, at no more
-- work than up to the starts behind it.
use Rattle.std.proofs.Common.{◌≡◌, ◌∙◌, arith, [], rules, Some}
use Rattle.gtd_core.specs.Parts.{duration_parts}
use Rattle.gtd_core.specs.Whole.{whole}
use Rattle.gtd_recur.specs.RunsToCome.{runs_to_come}
use Rattle.gtd_recur.specs.Walking.{IsCountedTo}
use Rattle.gtd_recur.proofs.GivenLemmas.{run-at_most, run-at_least, whole-order}
use Rattle.gtd_calendar.specs.facts.Signed.{signed_arith}
use Rattle.gtd_recur.proofs.LookLemmas.{run-widen}
use Rattle.gtd_recur.proofs.StretchLemmas.{run-first, run-none, runs-nil}
use Rattle.gtd_recur.proofs.runs.Runs.next_run.Goals as goal

pub returns-in-Some-cut : goal.returns-in-Some-cut
returns-in-Some-cut c =
    let s = c.loop-self.self in
    let same = c.loop-self.invariant.same in
    let next = c.run_end-ahead.ensures.same in
    let run = rw (← same.basic) at c.run_end-ahead.ensures.run in
    let cut = rw (c.from-from.ensures.value, c.until-until.ensures.value, ← same.horizon) at c.in-Some-cut.ensures in
    let first = run-first (duration_parts s.walk.basic.duration) _ _ (whole s.walk.horizon).from
    (whole s.walk.horizon).until c.in-Some.first.0 c.run_end-ahead.result.0.0 c.in-Some-cut.span
    (whole-order s.walk.horizon) run c.run_end-ahead.ensures.after cut in
    let most = run-at_most s.walk c.run_end-ahead.new.walk c.run_end-ahead.result.0.0 c.in-Some-cut.span.until
    c.run_end-ahead.ensures.at_most cut.3 in
    let within = (cut.1 c.in-Some-cut.span.from).0 (omega (arith, signed_arith), cut.0) in
    let begun = cut.0 in
    let late = within.2 in
    let counted : IsCountedTo s.walk (Some c.in-Some.first) = rw c.in-Some.is at s.counted in
    let least = run-at_least s.walk c.run_end-ahead.new.walk c.in-Some.first.0 c.in-Some-cut.span.from counted.1
    c.run_end-ahead.ensures.grows cut.4 in
    record {
      takes = c.loop-self.invariant.left ∙ rw (c.in-Some.is, next.basic, next.horizon) (rw (next.basic, next.horizon) at first);
      basic = next.basic ∙ same.basic;
      horizon = next.horizon ∙ same.horizon;
      whole = c.loop-self.invariant.whole;
      at_most = rw (← same.basic, ← same.horizon) (run-widen s.walk c.in-Some-cut.span.until _
          (omega (arith, signed_arith, begun, late)) most);
      at_least = rw (← same.basic, ← same.horizon) least;
      grows = search rules;
    }

pub loop-self-preserved : goal.loop-self-preserved
loop-self-preserved c =
    let s = c.loop-self.self in
    let same = c.loop-self.invariant.same in
    let next = c.run_end-ahead.ensures.same in
    let none = run-none (duration_parts s.walk.basic.duration) _ _ (whole s.walk.horizon).from
    (whole s.walk.horizon).until c.in-Some.first.0 c.run_end-ahead.result.0.0 (whole-order s.walk.horizon)
    (rw (← same.basic) at c.run_end-ahead.ensures.run)
    (rw (c.from-from.ensures.value, c.until-until.ensures.value, ← same.horizon) at c.in_default-cut.ensures) in
    record {
      left = c.loop-self.invariant.left ∙ rw (c.in-Some.is, next.basic, next.horizon) (rw (next.basic, next.horizon) at none);
      whole = c.loop-self.invariant.whole;
      same = record {
        basic = next.basic ∙ same.basic;
        horizon = next.horizon ∙ same.horizon;
        first = next.first ∙ same.first;
        seen = next.seen ∙ same.seen;
      };
      grows = (let a = c.loop-self.invariant.grows in let b = c.run_end-ahead.ensures.grows in omega (arith, a, b));
    }

pub returns-clause-takes : goal.returns-clause-takes
returns-clause-takes c =
    let s = c.loop-self.self in
    let nil : runs_to_come s ≡ [] = rw c.in_default.is (runs-nil (duration_parts s.walk.basic.duration)
    (whole s.walk.horizon).from (whole s.walk.horizon).until (whole-order s.walk.horizon)) in
    (c.loop-self.invariant.left ∙ nil, nil)

pub returns-clause-basic : goal.returns-clause-basic
returns-clause-basic c = c.loop-self.invariant.same.basic
