use Rattle.gtd_hours_hidden.proofs.HiderFacts.{AreHiders}
use Rattle.gtd_hours_hidden.proofs.rules.hiders.Given as goal

-- those that hide hours of the rules so far
abbrev pub invariant-loop-place : goal.invariant-loop-place
invariant-loop-place l = AreHiders l.rules l.place l.places.items
