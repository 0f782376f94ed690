-- The horizon runs from the moment's own day, and the days pass through casts unchanged.
use Rattle.std.proofs.Common.{◌≡◌, ◌∙◌, refl, subst, rules, to_z-of_z, w64, FitsSigned}
use Rattle.std.specs.Prelude.{ℤ}
use Rattle.gtd_core.specs.Horizons.{IsHorizon, IsHorizonFault}
use Rattle.gtd_core.specs.Seconds.{day_of_second}
use Rattle.gtd_tool.proofs.words.in_horizon.Goals as goal

pub returns-in-Ok-clause-read : goal.returns-in-Ok-clause-read
returns-in-Ok-clause-read c =
    let day : c.day.result ≡ day_of_second c.args.moment.second.0 = c.day.ensures.value in
    let fits : FitsSigned w64 c.day.result = search rules in
    let to = to_z-of_z c.ranges.to in
    let h = c.in-Ok.ensures.horizon in
    (refl, h.1 ∙ to, subst (λ (n : ℤ). IsHorizon n c.args.to) (to_z-of_z fits ∙ day) (subst (IsHorizon _) to h.2))

pub returns-in-Err-clause-fault : goal.returns-in-Err-clause-fault
returns-in-Err-clause-fault c =
    let day : c.day.result ≡ day_of_second c.args.moment.second.0 = c.day.ensures.value in
    let fits : FitsSigned w64 c.day.result = search rules in (
      c.in-Err.fault,
      subst (λ (n : ℤ). IsHorizonFault c.in-Err.fault n c.args.to) (to_z-of_z fits ∙ day)
          (subst (IsHorizonFault c.in-Err.fault _) (to_z-of_z c.ranges.to) c.in-Err.ensures.horizon),
      refl,
    )
