-- Where no tag is left that has not been looked at, all say the same of both directions.
use Rattle.std.proofs.Common.{◌≡◌, []}
use Rattle.std.proofs.lemmas.List.{nil_from_length}
use Rattle.gtd_conditional_steps.proofs.TwoWayLemmas.{two-way-closed, two-way-steps}
use Rattle.gtd_conditional_steps.proofs.two_way.are_two_way.Goals as goal

pub returns-clause-steps : goal.returns-clause-steps
returns-clause-steps c = λ yes.
    let none : c.loop-tag.rest.now ≡ [] = nil_from_length c.loop-tag.rest.now c.in_default.ensures.cases in
    two-way-steps c.args.tags.now (c.loop-tag.invariant.0 (rw none tt))

pub returns-clause-closed : goal.returns-clause-closed
returns-clause-closed c = λ yes.
    let none : c.loop-tag.rest.now ≡ [] = nil_from_length c.loop-tag.rest.now c.in_default.ensures.cases in
    two-way-closed c.args.tags.now (c.loop-tag.invariant.0 (rw none tt))
