-- One token more is read at each turn; where none comes, these are all of the text, or the fault is its first one.
use Rattle.std.proofs.Common.{◌≤◌, List, Option, Ok, length, subst, sym}
use Rattle.std.specs.Prelude.{IfSome}
use Rattle.std.proofs.lemmas.Result.{err_from_is_err_and}
use Rattle.gtd_hours_times.specs.Tokens.{IsNextTime, IsNoMomentText}
use Rattle.gtd_hours_times.specs.declared.times.TimeToken.{TimeToken}
use Rattle.gtd_hours_times.proofs.TokenLemmas.{HasTokens, all_tokens, fault_read, with_token}
use Rattle.gtd_hours_times.proofs.tokens.time_tokens.Goals as goal

pub loop-tokens-preserved : goal.loop-tokens-preserved
loop-tokens-preserved c =
    let next = subst (λ (o : Option TimeToken). IsNextTime c.args.text.now c.loop-tokens.place (Ok o)) c.in-Some.is
    c.in_ok-token.ensures.next in
    record {
      inside = subst (λ (o : Option TimeToken). IfSome o (λ t. t.to ≤ length c.args.text.now)) c.in-Some.is
          c.in_ok-token.ensures.inside;
      read = subst (λ (l : List TimeToken). HasTokens c.args.text.now l c.in-Some.token.to) (sym c.in_ok-push_token.ensures)
          (with_token c.args.text.now c.loop-tokens.tokens.items c.loop-tokens.place c.in-Some.token c.loop-tokens.invariant.read
          next.0 next.1);
    }

pub returns-clause-tokens : goal.returns-clause-tokens
returns-clause-tokens c = all_tokens c.args.text.now c.loop-tokens.tokens.items c.loop-tokens.place c.in_ok-token.field-0
    c.loop-tokens.invariant.read c.in_ok-token.ensures.next c.in_default.not-Some

pub returns-in_err-token-clause-fault : goal.returns-in_err-token-clause-fault
returns-in_err-token-clause-fault c =
    let p = err_from_is_err_and c.from_residual.result c.from_residual.ensures.1 in
    rw (p.1) (subst (IsNoMomentText c.args.text.now) (sym p.2)
    (fault_read c.args.text.now c.loop-tokens.tokens.items c.loop-tokens.place c.in_err-token.field-0.0.place
    c.loop-tokens.invariant.read c.in_err-token.ensures.next))
