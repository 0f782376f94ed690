-- Month days that are a kind of their own restrict the rule; those beside others hold as these do.
use Rattle.gtd_hours_dated.proofs.MatchFacts.{joined_matches, own_matches}
use Rattle.gtd_hours_dated.proofs.laws.days_of_dates.Goals as goal

pub returns-clause-own : goal.returns-clause-own
returns-clause-own c = λ more rule made none is.
    own_matches more rule.kinds.items made.kinds.items none is.kinds

pub returns-clause-joined : goal.returns-clause-joined
returns-clause-joined c = λ more rule made years others month_days split all named is.
    joined_matches more rule.kinds.items made.kinds.items years others month_days split all named is.kinds
