-- Tokens without fault can be completed to an expression, and tokens that can be completed are without fault.
use Rattle.gtd_text.specs.facts.Scanned.{clean_goes_on, goes_on_clean}
use Rattle.gtd_text.proofs.laws.tokens_go_on.Goals as goal

pub returns : goal.returns
returns c = record { agree = λ tokens. (clean_goes_on tokens, goes_on_clean tokens) }
