-- The tokens so far are those of the bytes up to the place, which is in the text, and all their comments are whole.
use Rattle.std.proofs.Common.{◌≡◌, ◌≤◌, ◌-◌, length, true}
use Rattle.gtd_hours_items.specs.Comments.{are_whole}
use Rattle.gtd_hours_items.proofs.TokenLemmas.{HasTokens}
use Rattle.gtd_hours_items.proofs.tokens.tokens_of.Given as goal

abbrev pub invariant-loop-tokens : goal.invariant-loop-tokens
invariant-loop-tokens l = record {
  inside : l.place ≤ length l.text;
  read : HasTokens l.text l.tokens.items l.place;
  whole : are_whole l.text l.tokens.items ≡ true;
}

abbrev pub decreases-loop-tokens : goal.decreases-loop-tokens
decreases-loop-tokens l = length l.text - l.place
