-- Where nothing is left of what is handed out again, the next span is a kept one.
use Rattle.gtd_recur.specs.facts.StretchFacts.{runs_between-normal}
use Rattle.gtd_eval.specs.Cursors.{cursor_list}
use Rattle.gtd_eval.specs.facts.CursorFacts.{cursor-normal}
use Rattle.gtd_eval.proofs.FitLemmas.{fits-turned, within-turned}
use Rattle.gtd_eval.proofs.kept.KeptPeriod.next_within.Goals as goal

pub returns-clause-kept : goal.returns-clause-kept
returns-clause-kept c =
    let xs = cursor_list c.args._inner.now in
    let normal = cursor-normal (λ runs. runs_between-normal _ _ _ _) c.args._inner.now in
    let t = c.turn_within.ensures in
    fits-turned c.args.again.now c.turn_within.new.self xs _ normal c.requires.kept c.requires.repeating
    (t.kept xs normal c.requires.kept.kept) (t.again xs c.requires.kept.ready) t.told (t.ended c.requires.ended)

pub returns-clause-takes : goal.returns-clause-takes
returns-clause-takes c =
    let xs = cursor_list c.args._inner.now in
    let normal = cursor-normal (λ runs. runs_between-normal _ _ _ _) c.args._inner.now in
    let t = c.turn_within.ensures in
    within-turned c.args.again.now c.turn_within.new.self xs c.turn_within.result c.requires.ended (t.ended c.requires.ended)
    (t.takes xs normal c.requires.kept.kept)
