-- A list whose seconds are in the horizon and repeat there may be learnt: nothing of it is kept yet.
use Rattle.gtd_recur.specs.facts.StretchFacts.{runs_between-normal}
use Rattle.gtd_eval.specs.Cursors.{cursor_list}
use Rattle.gtd_eval.specs.facts.CursorFacts.{cursor-normal}
use Rattle.gtd_eval.proofs.Unions.{list-fits}
use Rattle.gtd_eval.proofs.kept.SweepTree+Part.repeating.Goals as goal

pub new-requires : goal.new-requires
new-requires c = record {
  kept = list-fits c.args.horizon (cursor_list c.args.cursor) c.args.period
      (cursor-normal (λ runs. runs_between-normal _ _ _ _) c.args.cursor) c.requires.inside c.requires.repeats;
}
