-- Where nothing is left of what is handed out again, kept spans are left out.
use Rattle.std.proofs.Common.{rules}
use Rattle.gtd_recur.specs.facts.StretchFacts.{runs_between-normal}
use Rattle.gtd_kept.specs.Kept.{IsLapEnded}
use Rattle.gtd_kept.specs.Repeating.{IsRepeating}
use Rattle.gtd_eval.specs.Cursors.{cursor_list}
use Rattle.gtd_eval.specs.facts.CursorFacts.{cursor-normal}
use Rattle.gtd_eval.proofs.FitLemmas.{fits-turned, leaves-turned}
use Rattle.gtd_eval.proofs.kept.KeptPeriod.skip_to.Goals as goal

pub returns-then-is_lap_ended-clause-kept : goal.returns-then-is_lap_ended-clause-kept
returns-then-is_lap_ended-clause-kept c =
    let xs = cursor_list c.args._inner.now in
    let normal = cursor-normal (λ runs. runs_between-normal _ _ _ _) c.args._inner.now in
    let repeating : IsRepeating c.args.again.now.stage = search rules in
    let ended : IsLapEnded c.args.again.now = search rules in
    let s = c.skip_to.ensures in
    fits-turned c.args.again.now c.skip_to.new.self xs _ normal c.requires.kept repeating
    (s.kept xs normal c.requires.kept.kept) (s.again xs c.requires.kept.ready) s.told (s.ended ended)

pub returns-then-is_lap_ended-clause-leaves : goal.returns-then-is_lap_ended-clause-leaves
returns-then-is_lap_ended-clause-leaves c =
    let xs = cursor_list c.args._inner.now in
    let normal = cursor-normal (λ runs. runs_between-normal _ _ _ _) c.args._inner.now in
    let ended : IsLapEnded c.args.again.now = search rules in
    let s = c.skip_to.ensures in
    leaves-turned c.args.again.now c.skip_to.new.self xs c.args.second.0 ended (s.ended ended)
    (s.leaves xs normal c.requires.kept.kept)
