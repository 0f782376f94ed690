-- A token comes next: by itself, or paired with those after it.
use Rattle.std.proofs.Common.{◌≡◌, ◌∙◌, rules, sym}
use Rattle.gtd_hours_tokens2.specs.Tokens.{with_token}
use Rattle.gtd_hours_tokens2.specs.Cursors.{raw_from}
use Rattle.gtd_hours_tokens2.proofs.CursorLemmas.{single_next, token_next}
use Rattle.gtd_hours_tokens2.proofs.cursor.next_piece.Goals as goal

pub returns-then-is_single-clause-next : goal.returns-then-is_single-clause-next
returns-then-is_single-clause-next c =
    let e : raw_from c.args.names c.args.text.now c.args.cursor.place
    ≡ with_token c.in-Some-Token-default.token
    (raw_from c.args.names c.args.text.now c.in-Some-Token-default.to) = search rules in
    rw c.passed.ensures (single_next c.args.names c.args.text.now c.args.cursor c.in-Some-Token-default.token
    c.in-Some-Token-default.to e (sym c.is_single.ensures ∙ c.if-is_single.true))

pub returns-else-is_single-clause-next : goal.returns-else-is_single-clause-next
returns-else-is_single-clause-next c =
    let e : raw_from c.args.names c.args.text.now c.args.cursor.place
    ≡ with_token c.in-Some-Token-default.token
    (raw_from c.args.names c.args.text.now c.in-Some-Token-default.to) = search rules in
    rw c.advanced.ensures (token_next c.args.names c.args.text.now c.args.cursor c.in-Some-Token-default.token
    c.in-Some-Token-default.to c.paired_at-paired.result e c.paired_at-paired.ensures)
