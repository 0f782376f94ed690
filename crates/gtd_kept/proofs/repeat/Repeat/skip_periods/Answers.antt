-- All kept spans are left out for some periods, and are so many periods later afterwards.
use Rattle.std.proofs.Common.{rules, refl, FitsSigned, to_z-of_z, w64}
use Rattle.gtd_kept.specs.Kept.{kept_list}
use Rattle.gtd_kept.proofs.RoundLemmas.{done-turned, rounds-some}
use Rattle.gtd_kept.proofs.repeat.Repeat.skip_periods.Goals as goal

pub returns-clause-leaves : goal.returns-clause-leaves
returns-clause-leaves c = λ xs n h.
    let self = c.args.self.now in
    let by = c.in-Some.ensures in
    let done = done-turned c.in-Repeating.last.0 self.place self.kept.items
    (rw c.as_slice.ensures.value at (c.if-not-are_done_by.ensures.done refl)) in
    let passed = rounds-some self.period self.stage self.horizon.until c.args.second.0 c.in-Repeating.last.0 c.in-Some.by
    (kept_list self) xs c.in-Repeating.is self.some n by.whole done h by.inside by.in_time in
    let fits : FitsSigned w64 c.in-Some.by = search rules in
    rw (c.move_kept.ensures.stage, to_z-of_z fits) passed.0

pub returns-clause-kept : goal.returns-clause-kept
returns-clause-kept c = λ xs n h.
    let self = c.args.self.now in
    let by = c.in-Some.ensures in
    let put = c.move_kept.ensures in
    let done = done-turned c.in-Repeating.last.0 self.place self.kept.items
    (rw c.as_slice.ensures.value at (c.if-not-are_done_by.ensures.done refl)) in
    let passed = rounds-some self.period self.stage self.horizon.until c.args.second.0 c.in-Repeating.last.0 c.in-Some.by
    (kept_list self) xs c.in-Repeating.is self.some n by.whole done h by.inside by.in_time in
    let fits : FitsSigned w64 c.in-Some.by = search rules in
    rw (put.stage, put.kept, put.period, put.horizon, to_z-of_z fits) passed.1
