-- The tokens that are defined are those that are computed, and where none is computed, none begins.
use Rattle.gtd_scan.specs.facts.Computed.{token_agrees, none_agrees}
use Rattle.gtd_hours_tokens.specs.facts.TokenForms.{are_computed}
use Rattle.gtd_hours_tokens.proofs.laws.tokens_as_computed.Goals as goal

pub returns-clause-token : goal.returns-clause-token
returns-clause-token c = λ text. token_agrees (are_computed text)

pub returns-clause-none : goal.returns-clause-none
returns-clause-none c = λ text. none_agrees (are_computed text)
