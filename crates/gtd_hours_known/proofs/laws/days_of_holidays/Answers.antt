-- Days that are a kind of their own restrict the rule; days beside weekdays hold as these do.
use Rattle.std.proofs.Common.{inl, inr, refl, true}
use Rattle.gtd_hours_days.specs.Listed.{SomeListed}
use Rattle.gtd_hours_known.proofs.MatchFacts.{joined_matches, own_matches}
use Rattle.gtd_hours_known.proofs.laws.days_of_holidays.Goals as goal

pub returns-clause-led : goal.returns-clause-led
returns-clause-led c = λ table years listed days by order rule made are is.
    own_matches (SomeListed table.rows.items years listed) true order days rule.kinds.items made.kinds.items (inl refl) is.kinds
    are.1

pub returns-clause-alone : goal.returns-clause-alone
returns-clause-alone c = λ table years listed days by is_led order rule made none are is.
    own_matches (SomeListed table.rows.items years listed) is_led order days rule.kinds.items made.kinds.items (inr none)
    is.kinds are.1

pub returns-clause-joined : goal.returns-clause-joined
returns-clause-joined c = λ table years listed days by order rule made others weekdays split named are is.
    joined_matches (SomeListed table.rows.items years listed) order days rule.kinds.items made.kinds.items others weekdays split
    named is.kinds are.1
