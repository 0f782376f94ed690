-- A fault of the moment is told only once the domain had none.
use Rattle.std.proofs.Common.{[], ◌∷◌, sym, subst}
use Rattle.std.proofs.lemmas.Result.{err_from_is_err_and}
use Rattle.gtd_core.specs.Parts.{domain_tree}
use Rattle.gtd_tool.specs.Readings.{DomainPart, MomentPart}
use Rattle.gtd_tool.specs.Refusals.{IsStopped}
use Rattle.gtd_tool.proofs.LawLemmas.{domain_faultless}
use Rattle.gtd_tool.proofs.PlanLemmas.{stopped_after}
use Rattle.gtd_tool.proofs.words.domain_and_moment.Goals as goal

pub returns-in_err-moment-clause-stopped : goal.returns-in_err-moment-clause-stopped
returns-in_err-moment-clause-stopped c =
    let p = err_from_is_err_and c.from_residual-in_err-moment.result c.from_residual-in_err-moment.ensures.1 in
    let moment = MomentPart c.args.moment.now ∷ [] in
    rw (p.1) (stopped_after (DomainPart c.args.domain.now) moment p.0
    (domain_faultless c.args.domain.now (domain_tree c.in_ok-domain.domain) c.in_ok-domain.ensures.read)
    (subst (IsStopped moment) (sym p.2) c.in_err-moment.ensures.stopped))
