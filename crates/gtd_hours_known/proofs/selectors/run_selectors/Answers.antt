-- Each run that is passed becomes a selector of its days.
use Rattle.std.proofs.Common.{◌≡◌, ◌∙◌, ◌∷◌, ◌++◌, [], List, ap, subst, sym, append_assoc}
use Rattle.gtd_hours_holidays.specs.declared.run.Run.{Run}
use Rattle.gtd_hours_days.specs.Parts.{AreShort}
use Rattle.gtd_hours_known.proofs.DayFacts.{ranges_more}
use Rattle.gtd_hours_known.proofs.selectors.run_selectors.Goals as goal

pub loop-run-preserved : goal.loop-run-preserved
loop-run-preserved c =
    let run = c.in-Some.run'.now in
    let more = c.in-Some.more.now in
    let split : c.loop-run.rest.now ≡ run ∷ more = c.in-Some.ensures.cases.0 in
    let so_far = c.loop-run.invariant.ranges in
    record {
      ranges = (
        so_far.0 ++ run ∷ [],
        so_far.1 ∙ ap (λ (l : List Run). so_far.0 ++ l) split ∙ sym (append_assoc so_far.0 (run ∷ []) more),
        rw c.in_ok-push.ensures.items
            (ranges_more so_far.0 run c.loop-run.days.items c.run_selector.result so_far.2 c.run_selector.ensures),
      );
      short = (subst AreShort split c.loop-run.invariant.short).1;
    }
