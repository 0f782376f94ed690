-- A span that the left side covers is handed out as it is.
use Rattle.gtd_spans.specs.Merging.{IsRightGiven}
use Rattle.gtd_spans.proofs.GivenSteps.{gives-right}
use Rattle.gtd_spans.proofs.merge.Merge.gives_right.Goals as goal

pub returns-in-Meet-clause-gives : goal.returns-in-Meet-clause-gives
returns-in-Meet-clause-gives c = λ yes.
    let given : IsRightGiven c.args.self.now c.args.x = rw c.in-Meet.is (c.covers.ensures.value.0 yes) in
    gives-right c.args.self.now c.args.x given
