-- Weeks that go back are two ranges.
use Rattle.std.proofs.Common.{refl}
use Rattle.std.proofs.lemmas.Bool.{leb-false}
use Rattle.gtd_hours_days2.proofs.LowerFacts.{back-lowered}
use Rattle.gtd_hours_days2.proofs.PartFacts.{are_back, early_weeks, late_weeks}
use Rattle.gtd_hours_days2.proofs.weeks.back.Goals as goal

pub returns-in-Some-weeks_to-clause-kept : goal.returns-in-Some-weeks_to-clause-kept
returns-in-Some-weeks_to-clause-kept c =
    back-lowered c.args.first c.args.last c.args.step c.in-Some.late c.in-Some-weeks_to.early c.requires
    (rw c.from.ensures at c.in-Some.ensures.kept) (rw c.from-in-Some.ensures at c.in-Some-weeks_to.ensures.kept)

pub returns-in-Some-weeks_to-clause-accepted : goal.returns-in-Some-weeks_to-clause-accepted
returns-in-Some-weeks_to-clause-accepted c =
    rw c.requires (
      (λ h. are_back c.args.first c.args.last c.from.result c.from-in-Some.result c.from.ensures c.from-in-Some.ensures
          (c.in-Some.ensures.accepted.0 refl) (c.in-Some-weeks_to.ensures.accepted.0 refl)),
      (λ h. refl),
    )

pub returns-in-None-weeks_to-clause-accepted : goal.returns-in-None-weeks_to-clause-accepted
returns-in-None-weeks_to-clause-accepted c =
    let lt = leb-false c.args.first c.args.last c.requires in
    rw c.requires (
      (λ h. absurd cc),
      (λ h.
          let yes = c.in-None-weeks_to.ensures.accepted.1
          (early_weeks c.args.first c.args.last c.from-in-Some.result lt h.0 h.1 c.from-in-Some.ensures) in
          cc),
    )

pub returns-in-None-clause-accepted : goal.returns-in-None-clause-accepted
returns-in-None-clause-accepted c =
    let lt = leb-false c.args.first c.args.last c.requires in
    rw c.requires (
      (λ h. absurd cc),
      (λ h.
          let yes = c.in-None.ensures.accepted.1
          (late_weeks c.args.first c.args.last c.from.result lt h.0 c.from.ensures) in
          cc),
    )
