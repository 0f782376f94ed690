-- While the spans of a period are learnt, the list is the cursor's own, and keeping one does not change it.
use Rattle.std.proofs.Common.{◌∙◌}
use Rattle.gtd_recur.specs.facts.StretchFacts.{runs_between-normal}
use Rattle.gtd_eval.specs.Cursors.{cursor_list, cursor_whole}
use Rattle.gtd_eval.specs.facts.CursorFacts.{cursor-normal}
use Rattle.gtd_eval.proofs.FitLemmas.{fits-learnt, takes-learnt, rest-all}
use Rattle.gtd_eval.proofs.kept.KeptPeriod.next_learnt.Goals as goal

pub returns-in-Some-clause-kept : goal.returns-in-Some-clause-kept
returns-in-Some-clause-kept c =
    let taken = c.in-Some.ensures.takes in
    let xs = cursor_list c.next.new.self in
    let before = rw taken at (cursor-normal (λ runs. runs_between-normal _ _ _ _) c.args.inner.now) in
    let fits = rw taken at c.requires.kept in
    let keep = c.keep.ensures in
    rw c.next.ensures.whole (fits-learnt c.args.again.now c.keep.new.self xs (cursor_whole c.args.inner.now) c.in-Some.span fits
    c.requires.learning before.2 (keep.kept xs before fits.kept) (keep.again xs before fits.kept) keep.ended
    (keep.all xs before fits.kept) keep.given_up keep.told)

pub returns-in-Some-clause-takes : goal.returns-in-Some-clause-takes
returns-in-Some-clause-takes c =
    let taken = c.in-Some.ensures.takes in
    let xs = cursor_list c.next.new.self in
    let before = rw taken at (cursor-normal (λ runs. runs_between-normal _ _ _ _) c.args.inner.now) in
    let fits = rw taken at c.requires.kept in
    let ended = c.requires.kept.ended c.requires.learning in
    takes-learnt c.args.again.now c.keep.new.self (cursor_list c.args.inner.now) xs c.in-Some.span ended c.requires.learning
    (c.keep.ensures.ended ended) taken (c.keep.ensures.all xs before fits.kept)

pub returns-in-None-clause-kept : goal.returns-in-None-clause-kept
returns-in-None-clause-kept c =
    rw (c.in-None.ensures.takes.1, c.next.ensures.whole) (rw c.in-None.ensures.takes.0 at c.requires.kept)

pub returns-in-None-clause-takes : goal.returns-in-None-clause-takes
returns-in-None-clause-takes c =
    let ended = c.requires.kept.ended c.requires.learning in (
      rest-all c.args.again.now (cursor_list c.args.inner.now) ended c.requires.learning ∙ c.in-None.ensures.takes.0,
      rest-all c.args.again.now (cursor_list c.next.new.self) ended c.requires.learning ∙ c.in-None.ensures.takes.1,
    )
