-- A space is passed and a token is put, each further on in the text, and a wrong token is the fault of the whole text.
use Rattle.std.proofs.Common.{◌≡◌, ◌≤◌, ◌<◌, List, length, drop, ap, subst, sym, arith, length-drop}
use Rattle.gtd_hours_loose_tokens.specs.declared.token.LooseToken.{LooseToken}
use Rattle.gtd_hours_loose_tokens.proofs.LexingLemmas.{HasRead, fault_read, space_read, token_read}
use Rattle.gtd_hours_loose_tokens.proofs.lexer.tokens_of.Goals as goal

pub loop-place-preserved-then-space-gt0 : goal.loop-place-preserved-then-space-gt0
loop-place-preserved-then-space-gt0 c = record {
  inside =
      let within = c.space_length-space.ensures.within in
      let long : length c.bytes_from-rest.result.now ≡ length (drop c.loop-place.place c.args.text.now) =
      ap length c.bytes_from-rest.ensures in
      omega (arith, within, long, length-drop c.loop-place.place c.args.text.now);
  read = space_read c.args.names c.args.text.now c.loop-place.tokens.items c.loop-place.place c.space_length-space.result
      c.bytes_from-rest.result.now c.loop-place.invariant.read c.bytes_from-rest.ensures c.space_length-space.ensures.count
      c.if-space-gt0.true;
}

pub returns-in-Err-clause-fault : goal.returns-in-Err-clause-fault
returns-in-Err-clause-fault c =
    let long : length c.bytes_from-rest.result.now ≡ length (drop c.loop-place.place c.args.text.now) =
    ap length c.bytes_from-rest.ensures in
    let some : 1 ≤ length c.bytes_from-rest.result.now =
    omega (arith, long, length-drop c.loop-place.place c.args.text.now, c.loop-place-test.true) in
    fault_read c.args.names c.args.text.now c.loop-place.tokens.items c.loop-place.place c.space_length-space.result
    c.bytes_from-rest.result.now c.in-Err.bad c.loop-place.invariant.read c.bytes_from-rest.ensures
    c.space_length-space.ensures.count c.if-space-gt0.false some c.in-Err.ensures.fault

pub loop-place-smaller : goal.loop-place-smaller
loop-place-smaller c =
    let long : length c.bytes_from-rest.result.now ≡ length (drop c.loop-place.place c.args.text.now) =
    ap length c.bytes_from-rest.ensures in
    let some : 1 ≤ length c.bytes_from-rest.result.now =
    omega (arith, long, length-drop c.loop-place.place c.args.text.now, c.loop-place-test.true) in
    let read = token_read c.args.names c.args.text.now c.loop-place.tokens.items c.loop-place.place c.space_length-space.result
    c.bytes_from-rest.result.now c.in-Ok.token c.loop-place.invariant.read c.bytes_from-rest.ensures
    c.space_length-space.ensures.count c.if-space-gt0.false some c.in-Ok.ensures.found in
    let further : c.loop-place.place < c.in-Ok.token.to = read.1 in
    omega (arith, further, c.loop-place-test.true)

pub loop-place-preserved : goal.loop-place-preserved
loop-place-preserved c =
    let long : length c.bytes_from-rest.result.now ≡ length (drop c.loop-place.place c.args.text.now) =
    ap length c.bytes_from-rest.ensures in
    let some : 1 ≤ length c.bytes_from-rest.result.now =
    omega (arith, long, length-drop c.loop-place.place c.args.text.now, c.loop-place-test.true) in
    let read = token_read c.args.names c.args.text.now c.loop-place.tokens.items c.loop-place.place c.space_length-space.result
    c.bytes_from-rest.result.now c.in-Ok.token c.loop-place.invariant.read c.bytes_from-rest.ensures
    c.space_length-space.ensures.count c.if-space-gt0.false some c.in-Ok.ensures.found in
    record {
      inside =
          let within = c.in-Ok.ensures.within in
          omega (arith, within, long, length-drop c.loop-place.place c.args.text.now, c.loop-place-test.true);
      read = subst (λ (l : List LooseToken). HasRead c.args.names c.args.text.now l c.in-Ok.token.to)
          (sym c.in_ok-push_token.ensures) read.0;
    }
