-- The token behind the spaces is the next one; it ends behind the place and within the text.
use Rattle.std.proofs.Common.{sym}
use Rattle.gtd_text.proofs.NextLemmas.{next_is, next_past, next_inside, next_there}
use Rattle.gtd_text.proofs.lexer.next_token.Goals as goal

pub returns-clause-next : goal.returns-clause-next
returns-clause-next c = next_is c.args.text.now c.args.place c.after_spaces.result c.token_at.result c.after_spaces.ensures.spaces
    c.after_spaces.ensures.ends (sym c.token_at.ensures)

pub returns-clause-past : goal.returns-clause-past
returns-clause-past c = next_past c.args.text.now c.args.place c.after_spaces.result c.token_at.result
    c.after_spaces.ensures.spaces.0 (sym c.token_at.ensures)

pub returns-clause-inside : goal.returns-clause-inside
returns-clause-inside c = next_inside c.args.text.now c.after_spaces.result c.token_at.result (sym c.token_at.ensures)

pub returns-clause-there : goal.returns-clause-there
returns-clause-there c = next_there c.args.text.now c.args.place c.after_spaces.result c.token_at.result
    c.after_spaces.ensures.spaces (sym c.token_at.ensures)
