-- What a rule says to be closed depends on what is open where the rule leaves that as it is.
use Rattle.gtd_hours_leaves.specs.Leaves.{InMaybe}
use Rattle.gtd_hours_domain.proofs.SaidLemmas.{closed_by-open}
use Rattle.gtd_hours_domain.proofs.said.after_rule.Goals as goal

pub returns-clause-closed : goal.returns-clause-closed
returns-clause-closed c = λ e s.
    let after = c.in_ok-closed.ensures.seconds e s in
    let same = closed_by-open c.args.rule.now.modifier c.args.rule.now.link c.args.rule.now (InMaybe c.args.said.opened s)
    (InMaybe c.args.said.closed s) _ s (c.in_ok-opened.ensures.seconds s) in
    ((λ h. same.0 (after.0 h)), (λ h. after.1 (same.1 h)))
