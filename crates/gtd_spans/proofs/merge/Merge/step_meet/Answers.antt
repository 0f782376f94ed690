-- Once one side has ended, an intersection has nothing more to give.
use Rattle.std.proofs.Common.{refl}
use Rattle.gtd_core.specs.declared.domain.Op.TheVariants.{Meet}
use Rattle.gtd_spans.proofs.MeetSteps.{nothing-more, meet-keeps, nothing-meet, meet-nothing}
use Rattle.gtd_spans.proofs.merge.Merge.step_meet.Goals as goal

pub returns-in-Ended-right-clause-steps : goal.returns-in-Ended-right-clause-steps
returns-in-Ended-right-clause-steps c = nothing-more Meet c.args.self.now c.requires.op (meet-keeps c.args.self.now.kept)
    (λ l r. rw (c.in-Ended-right.is, meet-nothing) refl)

pub returns-in-Ended-clause-steps : goal.returns-in-Ended-clause-steps
returns-in-Ended-clause-steps c = nothing-more Meet c.args.self.now c.requires.op (meet-keeps c.args.self.now.kept)
    (λ l r. rw (c.in-Ended.is, nothing-meet) refl)
