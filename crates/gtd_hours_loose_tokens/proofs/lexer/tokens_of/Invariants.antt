-- The tokens so far are those of the text up to the place, which is in the text.
use Rattle.std.proofs.Common.{◌≤◌, ◌-◌, length}
use Rattle.gtd_hours_loose_tokens.proofs.LexingLemmas.{HasRead}
use Rattle.gtd_hours_loose_tokens.proofs.lexer.tokens_of.Given as goal

abbrev pub invariant-loop-place : goal.invariant-loop-place
invariant-loop-place l = record { inside : l.place ≤ length l.text; read : HasRead l.names l.text l.tokens.items l.place }

abbrev pub decreases-loop-place : goal.decreases-loop-place
decreases-loop-place l = length l.text - l.place
