-- From each place on something comes next, so each text is tokens to its end or has a first byte that begins none.
use Rattle.gtd_hours_tokens.proofs.EachText.{each_next, each_text}
use Rattle.gtd_hours_tokens.proofs.laws.each_text.Goals as goal

pub returns-clause-next : goal.returns-clause-next
returns-clause-next c = each_next

pub returns-clause-text : goal.returns-clause-text
returns-clause-text c = each_text
