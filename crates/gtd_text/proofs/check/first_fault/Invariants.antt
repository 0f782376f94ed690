-- What is before the place is spaces and whole tokens, and the findings are theirs.
use Rattle.std.proofs.Common.{length, ◌-◌, ◌≤◌, List}
use Rattle.gtd_text.specs.declared.token.Token.{Token}
use Rattle.gtd_text.specs.facts.Lexed.{HasRead}
use Rattle.gtd_text.proofs.FindingsLemmas.{Finds}
use Rattle.gtd_text.proofs.check.first_fault.Given as goal

abbrev pub invariant-loop-place : goal.invariant-loop-place
invariant-loop-place l = record {
  inside : l.place ≤ length l.text;
  deep : l.findings.seen.depth ≤ l.place;
  many : l.findings.count ≤ l.place;
  has_read : (tokens : List Token) × HasRead l.text tokens l.place × Finds (length l.text) tokens l.findings;
}

abbrev pub decreases-loop-place : goal.decreases-loop-place
decreases-loop-place l = length l.text - l.place
