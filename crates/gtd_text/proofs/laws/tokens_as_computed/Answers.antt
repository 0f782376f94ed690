-- Tokens and faults by definition are those computed from the bytes at their place.
use Rattle.gtd_text.specs.facts.LexingForms.{none_computed, token_computed}
use Rattle.gtd_text.specs.facts.TokenForms.{fault_agrees}
use Rattle.gtd_text.proofs.laws.tokens_as_computed.Goals as goal

pub returns : goal.returns
returns c = record { token = token_computed; none = none_computed; fault = fault_agrees }
