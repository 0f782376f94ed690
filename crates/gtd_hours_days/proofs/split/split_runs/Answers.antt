-- One run more goes to the groups if it comes each year, and else to the other runs, and the split stays right.
use Rattle.std.proofs.Common.{◌≡◌, ◌∙◌, ◌+◌, ◌++◌, ◌∷◌, [], ap, sym, take}
use Rattle.std.proofs.lemmas.List.{take_more}
use Rattle.gtd_hours_holidays.specs.declared.run.Run.{Run}
use Rattle.gtd_hours_days.proofs.SplitFacts.{put_more}
use Rattle.gtd_hours_days.proofs.split.split_runs.Goals as goal

pub loop-run-preserved : goal.loop-run-preserved
loop-run-preserved c =
    let at = c.loop-run.run-index in
    let runs = c.args.runs.now in
    let r = c.run-item.result in
    let next : take (at + 1) runs ≡ take at runs ++ r ∷ [] =
    take_more runs at r c.loop-run-test.true ∙ ap (λ (x : Run). take at runs ++ x ∷ []) (sym c.run-item.is) in
    rw next (put_more c.args.days.now c.args.years (take at runs) c.loop-run.split c.put_run.new.split r
    c.yearly_group-group.result c.loop-run.invariant c.yearly_group-group.ensures c.in_ok-put_run.ensures)
