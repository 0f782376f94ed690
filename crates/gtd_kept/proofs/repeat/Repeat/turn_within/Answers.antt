-- The first kept span a period later is the next of the list.
use Rattle.std.proofs.Common.{drop}
use Rattle.gtd_kept.specs.Kept.{kept_list}
use Rattle.gtd_kept.proofs.RepeatLemmas.{turns-some}
use Rattle.gtd_kept.proofs.repeat.Repeat.turn_within.Goals as goal

pub returns-clause-takes : goal.returns-clause-takes
returns-clause-takes c = λ xs n h.
    let self = c.args.self.now in
    let later = c.in_ok-span.ensures.later in
    rw c.put_last.ensures.stage (turns-some self.period self.stage self.horizon.until (kept_list self)
    (drop 1 (kept_list self)) xs c.in_ok-first.first c.in_ok-span.span c.requires.repeating c.in_ok-first.ensures.first n h
    later.0 later.1).0

pub returns-clause-kept : goal.returns-clause-kept
returns-clause-kept c = λ xs n h.
    let self = c.args.self.now in
    let later = c.in_ok-span.ensures.later in
    let put = c.put_last.ensures in
    rw (put.stage, put.kept, put.period, put.horizon) (turns-some self.period self.stage self.horizon.until
    (kept_list self) (drop 1 (kept_list self)) xs c.in_ok-first.first c.in_ok-span.span c.requires.repeating
    c.in_ok-first.ensures.first n h later.0 later.1).1

pub returns-clause-again : goal.returns-clause-again
returns-clause-again c = λ xs h.
    let put = c.put_last.ensures in
    rw (put.count, put.told, put.learnt, put.period, put.horizon) (h.0, (λ r. h.1 c.requires.repeating))
