-- What is found ahead of a piece is found ahead of the pieces before it.
use Rattle.std.proofs.Common.{◌≡◌, ◌∙◌, rules, sym, ap, true, false}
use Rattle.std.specs.Prelude.{◌&&◌, ◌==◌}
use Rattle.gtd_hours_tokens2.specs.Cursors.{ahead}
use Rattle.gtd_hours_tokens2.specs.Tokens.{with_space, with_token}
use Rattle.gtd_hours_reading2.specs.TokenPlaces.{counts, left_after}
use Rattle.gtd_hours_reading2.proofs.Ahead.{end_next, fault_next, space_next, token_found, token_next}
use Rattle.gtd_hours_reading2.proofs.token_places.token_place.Goals as goal

pub returns-in-Err-next_piece : goal.returns-in-Err-next_piece
returns-in-Err-next_piece c = c.piece.invariant.same c.args.from
    (fault_next (ahead c.args.names c.args.text.now c.piece.cursor) c.in-Err-next_piece.field-0 c.args.from c.args.class
    c.piece.left c.args.from c.in-Err-next_piece.ensures.next)

pub returns-in-Ok-None : goal.returns-in-Ok-None
returns-in-Ok-None c = c.piece.invariant.same c.args.from
    (end_next (ahead c.args.names c.args.text.now c.piece.cursor) c.args.from c.args.class c.piece.left (search rules))

pub piece-preserved-in-Ok-Some-Space-default : goal.piece-preserved-in-Ok-Some-Space-default
piece-preserved-in-Ok-Some-Space-default c =
    let e : ahead c.args.names c.args.text.now c.piece.cursor ≡ with_space c.in-Ok-Some-Space-default.field-0-0-0-0
    (ahead c.args.names c.args.text.now c.in-Ok-Some-Space-default.later) = search rules in
    record {
      inside = search rules;
      same = λ offset h. c.piece.invariant.same offset (space_next (ahead c.args.names c.args.text.now c.piece.cursor)
          (ahead c.args.names c.args.text.now c.in-Ok-Some-Space-default.later) c.in-Ok-Some-Space-default.field-0-0-0-0
          c.args.from c.args.class c.piece.left offset e h);
    }

pub returns-then-is_found : goal.returns-then-is_found
returns-then-is_found c =
    let e : ahead c.args.names c.args.text.now c.piece.cursor ≡ with_token c.in-Ok-Some-Token-default.token
    (ahead c.args.names c.args.text.now c.in-Ok-Some-Token-default.later) = search rules in
    let hits : (counts c.args.from c.args.class c.in-Ok-Some-Token-default.token && (c.piece.left == 0)) ≡ true =
    rw (sym c.counts-is_one.ensures) (sym c.is_found.ensures ∙ c.if-is_found.true) in
    rw c.from.ensures (c.piece.invariant.same c.in-Ok-Some-Token-default.token.from
    (token_found (ahead c.args.names c.args.text.now c.piece.cursor)
    (ahead c.args.names c.args.text.now c.in-Ok-Some-Token-default.later) c.in-Ok-Some-Token-default.token c.args.from
    c.args.class c.piece.left e hits))

pub piece-preserved : goal.piece-preserved
piece-preserved c =
    let e : ahead c.args.names c.args.text.now c.piece.cursor ≡ with_token c.in-Ok-Some-Token-default.token
    (ahead c.args.names c.args.text.now c.in-Ok-Some-Token-default.later) = search rules in
    let misses : (counts c.args.from c.args.class c.in-Ok-Some-Token-default.token && (c.piece.left == 0)) ≡ false =
    rw (sym c.counts-is_one.ensures) (sym c.is_found.ensures ∙ c.if-is_found.false) in
    let next : c.left_after-left.result
    ≡ left_after (counts c.args.from c.args.class c.in-Ok-Some-Token-default.token) c.piece.left =
    rw (sym c.counts-is_one.ensures) c.left_after-left.ensures in
    record {
      inside = search rules;
      same = λ offset h. c.piece.invariant.same offset (token_next (ahead c.args.names c.args.text.now c.piece.cursor)
          (ahead c.args.names c.args.text.now c.in-Ok-Some-Token-default.later) c.in-Ok-Some-Token-default.token c.args.from
          c.args.class c.piece.left c.left_after-left.result offset e misses next h);
    }
