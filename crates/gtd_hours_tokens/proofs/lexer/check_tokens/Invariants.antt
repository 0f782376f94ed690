-- The bytes before the place have been read as tokens, and the place is in the text.
use Rattle.std.proofs.Common.{◌≤◌, ◌-◌, length}
use Rattle.gtd_hours_tokens.specs.facts.WholeText.{HasRead}
use Rattle.gtd_hours_tokens.proofs.lexer.check_tokens.Given as goal

abbrev pub invariant-loop-token : goal.invariant-loop-token
invariant-loop-token l = record { inside : l.place ≤ length l.text; has_read : HasRead l.text l.place }

abbrev pub decreases-loop-token : goal.decreases-loop-token
decreases-loop-token l = length l.text - l.place
