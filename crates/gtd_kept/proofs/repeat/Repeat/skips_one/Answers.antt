-- The first kept span a period later is the next of the list, and ends by the second.
use Rattle.std.proofs.Common.{rules, drop, [], ◌∷◌}
use Rattle.std.specs.Prelude.{◌≤ℤ◌}
use Rattle.gtd_kept.specs.Kept.{kept_list}
use Rattle.gtd_kept.proofs.RepeatLemmas.{turns-some}
use Rattle.gtd_kept.proofs.repeat.Repeat.skips_one.Goals as goal

pub returns-clause-leaves : goal.returns-clause-leaves
returns-clause-leaves c = λ xs n h.
    let self = c.args.self.now in
    let later = c.in-Some-a_period_later.ensures.later in
    let span = c.in-Some-a_period_later.span in
    let ends : span.until ≤ℤ c.args.second.0 = search rules in
    let turns = turns-some self.period self.stage self.horizon.until (kept_list self) (drop 1 (kept_list self)) xs
    c.in-Some.first span c.requires.repeating c.in-Some.ensures.first n h later.0 later.1 in
    rw c.put_last.ensures.stage (span ∷ [], turns.0, (ends, tt))

pub returns-clause-kept : goal.returns-clause-kept
returns-clause-kept c = λ xs n h.
    let self = c.args.self.now in
    let later = c.in-Some-a_period_later.ensures.later in
    let put = c.put_last.ensures in
    rw (put.stage, put.kept, put.period, put.horizon) (turns-some self.period self.stage self.horizon.until
    (kept_list self) (drop 1 (kept_list self)) xs c.in-Some.first c.in-Some-a_period_later.span c.requires.repeating
    c.in-Some.ensures.first n h later.0 later.1).1
