-- A fault of tokens or of rules is one of the text.
use Rattle.std.proofs.Common.{subst, sym, List}
use Rattle.gtd_hours_tokens.specs.declared.token.Token.{Token}
use Rattle.gtd_hours_mended.specs.Mending.{IsCheckedStop, IsTokensStop}
use Rattle.gtd_hours_mended.proofs.MendingFacts.{items_stop, rules_stop}
use Rattle.gtd_hours_mended.proofs.written.mended_checked.Goals as goal

pub returns-in-Err-clause-fault : goal.returns-in-Err-clause-fault
returns-in-Err-clause-fault c =
    subst (IsCheckedStop c.args.checked.now) (sym c.no_items.ensures)
    (items_stop c.args.checked.now c.in-Err.why c.in-Err.ensures.fault)

pub returns-clause-fault : goal.returns-clause-fault
returns-clause-fault c =
    let why = c.in-Err-mended_tokens.why in
    let stop = subst (λ (ts : List Token). IsTokensStop c.args.checked.now ts why) c.as_slice.ensures.value
    c.in-Err-mended_tokens.ensures.stop in
    subst (IsCheckedStop c.args.checked.now) (sym c.no_rules.ensures)
    (rules_stop c.args.checked.now c.in-Ok.tokens.items why c.in-Ok.ensures.tokens stop)
