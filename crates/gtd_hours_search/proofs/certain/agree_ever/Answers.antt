-- Domains with near years that have the same seconds from 1901 to 2699 have the same seconds for ever.
use Rattle.std.proofs.lemmas.Result.{IfOk-weaker}
use Rattle.gtd_core.specs.Parts.{domain_tree}
use Rattle.gtd_hours_search.proofs.Ever.{same-ever}
use Rattle.gtd_hours_search.proofs.certain.agree_ever.Goals as goal

pub returns : goal.returns
returns c =
    IfOk-weaker c.agree.result _ _ (λ agree found yes. same-ever (domain_tree c.args.domain.now) (domain_tree c.args.other.now)
    c.requires.near c.requires.others (found yes)) c.agree.ensures
