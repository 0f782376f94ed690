-- A token of plain hours comes next, or a parenthesis where none of them begins, or none at all.
use Rattle.std.proofs.Common.{Option, Ok, refl, subst, sym}
use Rattle.gtd_hours_tokens.specs.Lexing.{AreSpaces, IsNext}
use Rattle.gtd_hours_tokens.specs.declared.token.Token.{Token}
use Rattle.gtd_hours_times.specs.Tokens.{IsTimeToken, plain}
use Rattle.gtd_hours_times.specs.declared.times.TimeToken.{TimeToken}
use Rattle.gtd_hours_times.proofs.TokenLemmas.{stop_time}
use Rattle.gtd_hours_times.proofs.tokens.next_time_token.Goals as goal

pub returns-in-Some-clause-next : goal.returns-in-Some-clause-next
returns-in-Some-clause-next c =
    let text = c.args.text.now in
    let next = subst (λ (o : Option Token). IsNext text c.args.place (Ok o)) c.in-Some.is c.in-Ok.ensures.next in
    subst (λ (x : TimeToken). AreSpaces text c.args.place x.from × IsTimeToken text x) (sym c.time_token.ensures)
    (next.0, plain c.in-Some.token next.1 refl)

pub returns-in-None-parenthesis_at-clause-next : goal.returns-in-None-parenthesis_at-clause-next
returns-in-None-parenthesis_at-clause-next c =
    stop_time c.args.text.now c.args.place c.in-Err.bad.place c.in-Err.ensures.next (sym c.in-None-parenthesis_at.ensures)
