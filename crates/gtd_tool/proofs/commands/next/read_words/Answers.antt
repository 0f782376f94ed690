-- The first fault of domain, moment, date and horizon stops the reading; without one the words give the plan.
use Rattle.std.proofs.Common.{◌∙◌, [], ◌∷◌, sym, subst, rules, to_z-of_z, w64}
use Rattle.std.proofs.Common.{FitsSigned}
use Rattle.std.specs.Prelude.{ℤ}
use Rattle.std.proofs.lemmas.Result.{err_from_is_err_and}
use Rattle.gtd_core.specs.Horizons.{IsHorizon}
use Rattle.gtd_core.specs.Parts.{domain_tree}
use Rattle.gtd_tool.specs.Readings.{DatePart, DomainPart, HorizonPart, MomentPart}
use Rattle.gtd_tool.specs.Refusals.{IsNoHorizon, IsStopped}
use Rattle.gtd_tool.proofs.PlanLemmas.{after_moment, next_read, stopped_front, stopped_horizon}
use Rattle.gtd_tool.proofs.commands.next.read_words.Goals as goal

pub returns-in_err-domain : goal.returns-in_err-domain
returns-in_err-domain c =
    let p = err_from_is_err_and c.from_residual.result c.from_residual.ensures.1 in
    let words = DomainPart c.args.domain.now ∷ MomentPart c.args.moment.now ∷ [] in
    rw (p.1) (stopped_front words (DatePart c.args.to.now ∷ HorizonPart c.args.moment.now c.args.to.now ∷ []) p.0
    (subst (IsStopped words) (sym p.2) c.in_err-domain.ensures.stopped))

pub returns-in_err-to : goal.returns-in_err-to
returns-in_err-to c =
    let p = err_from_is_err_and c.from_residual-in_err-to.result c.from_residual-in_err-to.ensures.1 in
    let date = DatePart c.args.to.now ∷ [] in
    let horizon = HorizonPart c.args.moment.now c.args.to.now ∷ [] in
    rw (p.1) (after_moment c.args.domain.now c.args.moment.now (domain_tree c.in_ok-domain.domain) c.in_ok-domain.moment.second
    (DatePart c.args.to.now ∷ horizon) p.0 c.in_ok-domain.ensures.read
    (stopped_front date horizon p.0 (subst (IsStopped date) (sym p.2) c.in_err-to.ensures.stopped)))

pub returns-in_err-moment : goal.returns-in_err-moment
returns-in_err-moment c =
    let p = err_from_is_err_and c.from_residual-in_err-moment.result c.from_residual-in_err-moment.ensures.1 in
    let fits : FitsSigned w64 c.in_ok-to.to = search rules in
    rw (p.1) (stopped_horizon c.args.domain.now c.args.moment.now c.args.to.now
    (domain_tree c.in_ok-domain.domain) c.in_ok-domain.moment.second c.in_ok-to.to p.0
    c.in_ok-domain.ensures.read c.in_ok-to.ensures.read
    (subst (λ (n : ℤ). IsNoHorizon c.in_ok-domain.moment.second n p.0) (to_z-of_z fits)
    (subst (IsNoHorizon c.in_ok-domain.moment.second _) (sym p.2) c.in_err-moment.ensures.fault)))

pub returns : goal.returns
returns c =
    let fits : FitsSigned w64 c.in_ok-to.to = search rules in
    let e = c.in_ok-moment.ensures.read in
    next_read c.args.domain.now c.args.moment.now c.args.to.now (domain_tree c.in_ok-domain.domain)
    c.in_ok-domain.moment.second _ c.in_ok-to.to _ c.in_ok-domain.ensures.read c.in_ok-to.ensures.read e.0
    (e.1 ∙ to_z-of_z fits) (subst (IsHorizon _) (to_z-of_z fits) e.2)
