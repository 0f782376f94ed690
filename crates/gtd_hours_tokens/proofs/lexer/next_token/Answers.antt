-- The token that is computed behind the spaces comes next; it has a byte at least, and ends in the text.
use Rattle.std.proofs.Common.{◌<◌, length, sym, arith}
use Rattle.gtd_hours_tokens.specs.facts.NextToken.{token_next, stop_next}
use Rattle.gtd_hours_tokens.specs.facts.TokenForms.{goes_on, ends_inside}
use Rattle.gtd_hours_tokens.proofs.lexer.next_token.Goals as goal

pub returns-in-Some-clause-next : goal.returns-in-Some-clause-next
returns-in-Some-clause-next c = token_next c.args.text.now c.args.place c.after_spaces-from.result c.in-Some.token
    c.after_spaces-from.ensures.spaces (sym c.in-Some.ensures)

pub returns-in-Some-clause-past : goal.returns-in-Some-clause-past
returns-in-Some-clause-past c =
    let found = token_next c.args.text.now c.args.place c.after_spaces-from.result c.in-Some.token
    c.after_spaces-from.ensures.spaces (sym c.in-Some.ensures) in
    omega (arith, found.0.0, goes_on c.args.text.now c.in-Some.token found.1)

pub returns-in-Some-clause-inside : goal.returns-in-Some-clause-inside
returns-in-Some-clause-inside c =
    let found = token_next c.args.text.now c.args.place c.after_spaces-from.result c.in-Some.token
    c.after_spaces-from.ensures.spaces (sym c.in-Some.ensures) in
    ends_inside c.args.text.now c.in-Some.token found.1

pub returns-in-None-clause-next : goal.returns-in-None-clause-next
returns-in-None-clause-next c =
    let lt : c.after_spaces-from.result < length c.args.text.now =
    grind (arith, c.after_spaces-from.ensures.inside, c.if-from-text.false) in
    stop_next c.args.text.now c.args.place c.after_spaces-from.result c.after_spaces-from.ensures.spaces lt
    (c.after_spaces-from.ensures.ends lt) (sym c.in-None.ensures)
