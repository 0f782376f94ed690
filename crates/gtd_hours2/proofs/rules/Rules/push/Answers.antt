use Rattle.std.proofs.Common.{rules}
use Rattle.std.proofs.lemmas.List.{length-append}
use Rattle.gtd_hours2.proofs.Storing.{counted_more, stored}
use Rattle.gtd_hours2.proofs.rules.Rules.push.Goals as goal

pub invariant_of-self-in_default : goal.invariant_of-self-in_default
invariant_of-self-in_default c = search (rules, counted_more, length-append)

pub returns-clause-added : goal.returns-clause-added
returns-clause-added c = search (rules, stored)
