-- Once a period is kept, the kept spans move on by it and make the same list as the cursor.
use Rattle.std.proofs.Common.{◌∙◌}
use Rattle.gtd_recur.specs.facts.StretchFacts.{runs_between-normal}
use Rattle.gtd_eval.specs.Cursors.{cursor_list}
use Rattle.gtd_eval.specs.facts.CursorFacts.{cursor-normal}
use Rattle.gtd_eval.proofs.FitLemmas.{fits-again, fits-turned, takes-turned}
use Rattle.gtd_eval.proofs.kept.KeptPeriod.next_repeated.Goals as goal

pub returns-in-Some-clause-kept : goal.returns-in-Some-clause-kept
returns-in-Some-clause-kept c =
    let xs = cursor_list c.args._inner.now in
    let n = c.next_again.ensures in
    fits-again c.args.again.now c.next_again.new.self xs _ c.in-Some.span c.requires.kept c.requires.repeating
    (n.same xs c.requires.kept.kept) (n.again xs c.requires.kept.ready) n.told n.stage (c.in-Some.ensures.takes xs)

pub returns-in-Some-clause-takes : goal.returns-in-Some-clause-takes
returns-in-Some-clause-takes c = c.in-Some.ensures.takes (cursor_list c.args._inner.now)

pub returns-in-None-clause-kept : goal.returns-in-None-clause-kept
returns-in-None-clause-kept c =
    let xs = cursor_list c.args._inner.now in
    let normal = cursor-normal (λ runs. runs_between-normal _ _ _ _) c.args._inner.now in
    let n = c.next_again.ensures in
    let kept = n.same xs c.requires.kept.kept in
    let t = c.turn.ensures in
    fits-turned c.args.again.now c.turn.new.self xs _ normal c.requires.kept c.requires.repeating (t.kept xs normal kept)
    (t.again xs (n.again xs c.requires.kept.ready)) (t.told ∙ n.told) (t.ended c.in-None.ensures.ended)

pub returns-in-None-clause-takes : goal.returns-in-None-clause-takes
returns-in-None-clause-takes c =
    let xs = cursor_list c.args._inner.now in
    let normal = cursor-normal (λ runs. runs_between-normal _ _ _ _) c.args._inner.now in
    let n = c.next_again.ensures in
    takes-turned c.args.again.now c.next_again.new.self c.turn.new.self xs _ (c.in-None.ensures.takes xs) n.stage
    (c.turn.ensures.ended c.in-None.ensures.ended) (c.turn.ensures.takes xs normal (n.same xs c.requires.kept.kept))
