-- A span that the right side covers, or that it comes behind, is handed out as it is.
use Rattle.gtd_spans.specs.Merging.{IsLeftGiven}
use Rattle.gtd_spans.proofs.GivenSteps.{gives-left}
use Rattle.gtd_spans.proofs.merge.Merge.gives_left.Goals as goal

pub returns-in-Meet-clause-gives : goal.returns-in-Meet-clause-gives
returns-in-Meet-clause-gives c = λ yes.
    let given : IsLeftGiven c.args.self.now c.args.x = rw c.in-Meet.is (c.covers.ensures.value.0 yes) in
    gives-left c.args.self.now c.args.x given

pub returns-in-Minus-clause-gives : goal.returns-in-Minus-clause-gives
returns-in-Minus-clause-gives c = λ yes.
    let given : IsLeftGiven c.args.self.now c.args.x = rw c.in-Minus.is (c.comes_behind.ensures.value.0 yes) in
    gives-left c.args.self.now c.args.x given
