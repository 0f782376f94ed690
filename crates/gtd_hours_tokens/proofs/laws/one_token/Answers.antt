-- A token is the one that is computed from the bytes at its place, so two at one place are the same.
use Rattle.gtd_scan.specs.facts.Computed.{one_token}
use Rattle.gtd_hours_tokens.specs.facts.NextToken.{one_next}
use Rattle.gtd_hours_tokens.specs.facts.TokenForms.{are_computed}
use Rattle.gtd_hours_tokens.proofs.laws.one_token.Goals as goal

pub returns-clause-token : goal.returns-clause-token
returns-clause-token c = λ text. one_token (are_computed text)

pub returns-clause-next : goal.returns-clause-next
returns-clause-next c = one_next
