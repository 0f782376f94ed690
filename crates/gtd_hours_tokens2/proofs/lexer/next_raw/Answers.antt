-- Plain spaces are passed, and then a loose space or a token comes first.
use Rattle.std.proofs.Common.{◌≡◌, ◌∙◌, ◌≤◌, length, drop, ap, arith, length-drop}
use Rattle.gtd_hours_tokens2.proofs.CursorLemmas.{blank_step, space_step, token_step}
use Rattle.gtd_hours_tokens2.proofs.lexer.next_raw.Goals as goal

pub loop-place-preserved : goal.loop-place-preserved
loop-place-preserved c =
    let long : length c.bytes_from-rest.result.now ≡ length (drop c.loop-place.place c.args.text.now) =
    ap length c.bytes_from-rest.ensures in
    let some : 1 ≤ length c.bytes_from-rest.result.now =
    omega (arith, long, length-drop c.loop-place.place c.args.text.now, c.loop-place-test.true) in
    let far : c.args.from ≤ c.loop-place.place = c.loop-place.invariant.further in
    record {
      inside = omega (arith, c.loop-place-test.true);
      further = omega (arith, far);
      same = c.loop-place.invariant.same ∙ blank_step c.args.names c.args.text.now c.loop-place.place
          c.bytes_from-rest.result.now c.raw_at.result c.bytes_from-rest.ensures some c.raw_at.ensures.raw c.in-Blank.is;
    }

pub returns-in-Space-clause-next : goal.returns-in-Space-clause-next
returns-in-Space-clause-next c =
    let long : length c.bytes_from-rest.result.now ≡ length (drop c.loop-place.place c.args.text.now) =
    ap length c.bytes_from-rest.ensures in
    let some : 1 ≤ length c.bytes_from-rest.result.now =
    omega (arith, long, length-drop c.loop-place.place c.args.text.now, c.loop-place-test.true) in
    c.loop-place.invariant.same ∙ space_step c.args.names c.args.text.now c.loop-place.place c.bytes_from-rest.result.now
    c.raw_at.result c.in-Space.length c.bytes_from-rest.ensures some c.raw_at.ensures.raw c.in-Space.is
    c.in-Space.ensures.some

pub returns-in-Token-clause-next : goal.returns-in-Token-clause-next
returns-in-Token-clause-next c =
    let long : length c.bytes_from-rest.result.now ≡ length (drop c.loop-place.place c.args.text.now) =
    ap length c.bytes_from-rest.ensures in
    let some : 1 ≤ length c.bytes_from-rest.result.now =
    omega (arith, long, length-drop c.loop-place.place c.args.text.now, c.loop-place-test.true) in
    rw (c.placed.ensures.piece, c.placed.ensures.to) (c.loop-place.invariant.same ∙ token_step c.args.names c.args.text.now
    c.loop-place.place c.bytes_from-rest.result.now c.raw_at.result c.in-Token.found c.bytes_from-rest.ensures some
    c.raw_at.ensures.raw c.in-Token.is c.in-Token.ensures.some)
