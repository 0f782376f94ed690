-- The tokens so far are those of the bytes up to the place, which is in the text.
use Rattle.std.proofs.Common.{◌≤◌, ◌-◌, length}
use Rattle.gtd_hours_times.proofs.TokenLemmas.{HasTokens}
use Rattle.gtd_hours_times.proofs.tokens.time_tokens.Given as goal

abbrev pub invariant-loop-tokens : goal.invariant-loop-tokens
invariant-loop-tokens l = record { inside : l.place ≤ length l.text; read : HasTokens l.text l.tokens.items l.place }

abbrev pub decreases-loop-tokens : goal.decreases-loop-tokens
decreases-loop-tokens l = length l.text - l.place
