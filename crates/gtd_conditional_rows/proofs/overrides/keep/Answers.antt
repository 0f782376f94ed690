-- A step whose types are settled does nothing; another one is put before those that are kept.
use Rattle.std.proofs.Common.{arith, ap, get_or, ◌-◌}
use Rattle.gtd_conditional_rows.specs.declared.step.Step.{Step}
use Rattle.gtd_conditional_rows.proofs.OverrideLemmas.{is-kept, passed-over}
use Rattle.gtd_conditional_rows.proofs.overrides.keep.Goals as goal

pub returns-then-are_in : goal.returns-then-are_in
returns-then-are_in c = λ all so.
    let step = get_or c.args.steps.now c.args.place c.index-steps-place.result in
    passed-over all c.args.steps.now c.args.place c.args.first c.args.settled.now step c.requires.before so
    (ap (λ (x : Step). get_or c.args.steps.now c.args.place x) c.index-steps-place.is) (c.are_in.ensures.0 c.if-are_in.true)

pub returns : goal.returns
returns c = λ all so.
    let before = c.requires.before in
    let step = get_or c.args.steps.now c.args.place c.index-steps-place-2.result in
    is-kept all c.args.steps.now c.args.place c.args.first c.args.settled.now step before so
    (ap (λ (x : Step). get_or c.args.steps.now c.args.place x) c.index-steps-place-2.is) (c.args.first - 1) c.swap.new.self
    c.settle.new.settled (omega (arith, before)) c.swap.ensures.after c.settle.ensures
