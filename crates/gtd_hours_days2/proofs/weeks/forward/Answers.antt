-- Weeks that go on are one range.
use Rattle.std.proofs.Common.{refl}
use Rattle.gtd_hours_days2.proofs.LowerFacts.{forward-lowered}
use Rattle.gtd_hours_days2.proofs.weeks.forward.Goals as goal

pub returns-in-Some-clause-kept : goal.returns-in-Some-clause-kept
returns-in-Some-clause-kept c =
    forward-lowered c.args.first c.args.last c.args.step c.in-Some.selector c.requires
    (rw (c.from.ensures, c.from-2.ensures) at c.in-Some.ensures.kept)

pub returns-in-Some-clause-accepted : goal.returns-in-Some-clause-accepted
returns-in-Some-clause-accepted c =
    rw c.requires
    ((λ h. rw (c.from.ensures, c.from-2.ensures) at (c.in-Some.ensures.accepted.0 refl)), (λ h. refl))

pub returns-in-None-clause-accepted : goal.returns-in-None-clause-accepted
returns-in-None-clause-accepted c =
    rw c.requires (
      (λ h. absurd cc),
      (λ h. let yes = (rw (c.from.ensures, c.from-2.ensures) at c.in-None.ensures.accepted).1 h in cc),
    )
