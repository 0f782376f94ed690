-- Kept spans begin again without the tree; else the tree does, and none are kept.
use Rattle.std.proofs.Common.{◌∙◌, refl}
use Rattle.gtd_recur.specs.facts.StretchFacts.{runs_between-normal}
use Rattle.gtd_eval.specs.Cursors.{cursor_list, cursor_whole}
use Rattle.gtd_eval.specs.facts.CursorFacts.{cursor-normal, whole-normal}
use Rattle.gtd_eval.proofs.FitLemmas.{fits-begun, fits-given-up, given-up-repeats-not, not-given-up, rest-all}
use Rattle.gtd_eval.proofs.kept.KeptPeriod.begin_again.Goals as goal

pub returns-then-is_repeating-clause-kept : goal.returns-then-is_repeating-clause-kept
returns-then-is_repeating-clause-kept c =
    let xs = cursor_list c.args.inner.now in
    let b = c.begin_again.ensures in
    let ready = c.requires.kept.ready in
    fits-begun c.args.again.now c.begin_again.new.self xs (cursor_whole c.args.inner.now)
    (whole-normal (λ runs. runs_between-normal _ _ _ _) c.args.inner.now) c.requires.kept (c.if-is_repeating.ensures.yes refl)
    b.repeating (b.kept xs ready) (b.again xs ready) b.told (b.whole xs ready)

pub returns-then-is_repeating-clause-list : goal.returns-then-is_repeating-clause-list
returns-then-is_repeating-clause-list c =
    c.begin_again.ensures.whole (cursor_list c.args.inner.now) c.requires.kept.ready
    ∙ c.requires.kept.whole (not-given-up c.args.again.now.stage (c.if-is_repeating.ensures.yes refl))

pub returns-clause-kept : goal.returns-clause-kept
returns-clause-kept c =
    fits-given-up c.give_up.new.self (cursor_list c.begin_again-2.new.self) _
    (cursor-normal (λ runs. runs_between-normal _ _ _ _) c.begin_again-2.new.self) c.give_up.ensures.stage c.give_up.ensures.ended

pub returns-clause-list : goal.returns-clause-list
returns-clause-list c =
    rest-all c.give_up.new.self (cursor_list c.begin_again-2.new.self) c.give_up.ensures.ended
    (given-up-repeats-not c.give_up.new.self.stage c.give_up.ensures.stage) ∙ c.begin_again-2.ensures.list
