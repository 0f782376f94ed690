-- A token is at fault: then that fault, or one of the tokens to come, is what the text has.
use Rattle.std.proofs.Common.{◌≡◌, ◌∙◌, rules, sym, ap}
use Rattle.std.specs.Prelude.{Err}
use Rattle.gtd_hours_grammar2.specs.Machine.{next}
use Rattle.gtd_hours_tokens2.specs.Cursors.{ahead}
use Rattle.gtd_hours_tokens2.specs.Tokens.{with_token}
use Rattle.gtd_hours_text2.specs.Parts.{class_of}
use Rattle.gtd_hours_reading2.specs.Reading.{read, read_from, token_step}
use Rattle.gtd_hours_reading2.specs.Seen.{built, or_tokens}
use Rattle.gtd_hours_reading2.proofs.Running.{token_refused}
use Rattle.gtd_hours_reading2.proofs.run.read_hours.Goals as goal

pub returns-in-Err-Fault-clause-fault : goal.returns-in-Err-Fault-clause-fault
returns-in-Err-Fault-clause-fault c =
    let e : ahead c.args.names c.args.text.now c.piece.cursor ≡ with_token c.in-Ok-Some-Token-default.token
    (ahead c.args.names c.args.text.now c.in-Ok-Some-Token-default.later) = search rules in
    let f : token_step c.args.text.now c.in-Ok-Some-Token-default.token
    (next c.piece.state (class_of c.in-Ok-Some-Token-default.token.kind)) (built c.piece.builder)
    ≡ Err c.in-Err-Fault.fault = search rules in
    let g : read c.args.names c.args.text.now
    ≡ Err (or_tokens c.in-Err-Fault.fault (ahead c.args.names c.args.text.now c.in-Ok-Some-Token-default.later)) =
    sym c.piece.invariant.same ∙ ap (read_from c.args.text.now c.piece.state (built c.piece.builder)) e
    ∙ token_refused c.args.text.now c.piece.state (built c.piece.builder) c.in-Ok-Some-Token-default.token
    (ahead c.args.names c.args.text.now c.in-Ok-Some-Token-default.later) c.in-Err-Fault.fault f in
    let x : c.fault_ahead.result
    ≡ or_tokens c.in-Err-Fault.fault (ahead c.args.names c.args.text.now c.in-Ok-Some-Token-default.later) =
    cc (c.fault_ahead.ensures, c.in-Err-Fault.fault-is) in
    rw x g
