-- One token more is read at each turn; where none comes, the text is tokens to its end, or the fault is its first one.
use Rattle.std.proofs.Common.{◌≤◌, Option, Ok, length, subst, sym}
use Rattle.std.specs.Prelude.{IfSome}
use Rattle.std.proofs.lemmas.Result.{err_from_is_err_and}
use Rattle.gtd_hours_tokens.specs.declared.token.Token.{Token}
use Rattle.gtd_hours_tokens.specs.declared.token.BadToken.{BadToken}
use Rattle.gtd_hours_tokens.specs.Lexing.{IsNext, IsTokenFault}
use Rattle.gtd_hours_tokens.specs.facts.WholeText.{with_token, all_read_none, fault_read}
use Rattle.gtd_hours_tokens.proofs.lexer.check_tokens.Goals as goal

pub returns-in_err-token-clause-fault : goal.returns-in_err-token-clause-fault
returns-in_err-token-clause-fault c =
    let p = err_from_is_err_and c.from_residual.result c.from_residual.ensures.1 in
    rw (p.1) (subst (λ (b : BadToken). IsTokenFault c.args.text.now b.place) (sym p.2)
    (fault_read c.args.text.now c.loop-token.place c.in_err-token.field-0.0.place c.loop-token.invariant.has_read
    c.in_err-token.ensures.next))

pub loop-token-preserved : goal.loop-token-preserved
loop-token-preserved c =
    let next = subst (λ (o : Option Token). IsNext c.args.text.now c.loop-token.place (Ok o)) c.in-Some.is
    c.in_ok-token.ensures.next in
    record {
      inside = subst (λ (o : Option Token). IfSome o (λ t. t.to ≤ length c.args.text.now)) c.in-Some.is
          c.in_ok-token.ensures.inside;
      has_read = with_token c.args.text.now c.loop-token.place c.in-Some.token c.loop-token.invariant.has_read next.0 next.1;
    }

pub returns-clause-tokens : goal.returns-clause-tokens
returns-clause-tokens c = all_read_none c.args.text.now c.loop-token.place c.in_ok-token.field-0 c.loop-token.invariant.has_read
    c.in_ok-token.ensures.next c.in_default.not-Some
