use Rattle.gtd_hours_hidden.proofs.HiderFacts.{IsFree}
use Rattle.gtd_hours_hidden.proofs.rules.hider.Given as goal

-- no rule so far takes the days
abbrev pub invariant-loop-k : goal.invariant-loop-k
invariant-loop-k l = IsFree l.rules l.place l.earlier l.k
