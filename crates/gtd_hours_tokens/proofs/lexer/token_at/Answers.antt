-- The end of a token does not overflow, because its bytes are in the text, and the length of a slice is limited.
use Rattle.std.proofs.Common.{◌∙◌, sym, arith}
use Rattle.gtd_hours_tokens.specs.facts.TokenForms.{front_fits}
use Rattle.gtd_hours_tokens.proofs.lexer.token_at.Goals as goal

pub overflow_add-result : goal.overflow_add-result
overflow_add-result c =
    let fits = front_fits c.args.text.now c.args.place c.in_ok-kind.kind c.in_ok-kind.length c.requires
    (sym c.front.ensures ∙ c.in_ok-kind.was) in
    let few = c.type_inv.text in
    omega arith
