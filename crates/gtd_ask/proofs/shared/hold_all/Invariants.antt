-- What is held is right after each question.
use Rattle.gtd_ask.specs.Sharing.{IsSharing}
use Rattle.gtd_ask.proofs.shared.hold_all.Given as goal

abbrev pub invariant-loop-at : goal.invariant-loop-at
invariant-loop-at l = record { sharing : IsSharing l.found l.sharing }
