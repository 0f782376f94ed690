-- Each state takes the sign or the basic domain as the definition says, and where it takes none nothing can be built.
use Rattle.std.proofs.Common.{◌≡◌, [], Option, Some, None, ap, subst, ◌∙◌}
use Rattle.std.specs.Prelude.{MatchOption}
use Rattle.gtd_core.specs.Ranges.{no_parts}
use Rattle.gtd_core.specs.Trees.{tree_of}
use Rattle.gtd_text.specs.declared.builder.state.State.{State as Stage}
use Rattle.gtd_text.specs.Building.{State, AfterItem, InStart, step}
use Rattle.gtd_text.specs.BuilderStates.{opened, pending_of, stage_of}
use Rattle.gtd_text.specs.PendingParts.{sum_of, product_of}
use Rattle.gtd_text.proofs.BuildLemmas.{none_steps, token_on}
use Rattle.gtd_text.proofs.StepLemmas.{bracket_opens, no_item, parenthesis_opens}
use Rattle.gtd_text.proofs.builder.steps.next_state.Goals as goal

pub returns-in_ok-push_pending-in-OpenBracket-clause-found :
    goal.returns-in_ok-push_pending-in-OpenBracket-clause-found
returns-in_ok-push_pending-in-OpenBracket-clause-found c place r next there =
    let old = opened c.args.outer.now.items in
    let new = opened c.push_pending.new.outer.items in
    token_on c.args.text.now place c.args.token (stage_of old c.args.state) (stage_of new c.nothing.result) r next there
    (bracket_opens old new (pending_of c.in-Expecting.pending) (stage_of old c.args.state) (stage_of new c.nothing.result)
    c.args.token.kind (ap (stage_of old) c.in-Expecting.is) c.in-OpenBracket.is
    c.in_ok-push_pending-in-OpenBracket.ensures (c.nothing.ensures new))

pub returns-in-OpenParenthesis-clause-found : goal.returns-in-OpenParenthesis-clause-found
returns-in-OpenParenthesis-clause-found c place r next there =
    let old = opened c.args.outer.now.items in
    let sum = sum_of c.in-Expecting.pending.sum in
    let product = product_of c.in-Expecting.pending.product in
    c.after_basic.ensures.found old
    (token_on c.args.text.now place c.args.token (stage_of old c.args.state) (InStart old sum product [] no_parts) r next there
    (parenthesis_opens old sum product (stage_of old c.args.state) c.args.token.kind (ap (stage_of old) c.in-Expecting.is)
    c.in-OpenParenthesis.is))

pub returns-in_default : goal.returns-in_default
returns-in_default c = record {
  found = λ place r next there.
      let old = opened c.args.outer.now.items in
      none_steps c.args.text.now place c.args.token (stage_of old c.args.state) r next
      (no_item old (sum_of c.in-Expecting.pending.sum) (product_of c.in-Expecting.pending.product)
      (stage_of old c.args.state) c.args.token.kind (ap (stage_of old) c.in-Expecting.is)
      c.in_default.not-OpenBracket c.in_default.not-OpenParenthesis);
  past = tt;
  inside = tt;
}

pub returns-in-Some-clause-found : goal.returns-in-Some-clause-found
returns-in-Some-clause-found c place r next there =
    let old = opened c.args.outer.now.items in
    let new = opened c.after_item.new.outer.items in
    let kind = c.args.token.kind in
    let state = AfterItem old (sum_of c.in-AfterItem.sum) (tree_of c.in-AfterItem.term) in
    let stepped : step state kind ≡ Some (stage_of new c.in-Some.after) =
    subst (λ (o : Option Stage). MatchOption o (step state kind ≡ None) (λ a. step state kind ≡ Some (stage_of new a)))
    c.in-Some.is c.in_ok-after-in-AfterItem.ensures in
    token_on c.args.text.now place c.args.token (stage_of old c.args.state) (stage_of new c.in-Some.after) r next there
    (ap (λ (s : State). step s kind) (ap (stage_of old) c.in-AfterItem.is) ∙ stepped)

pub returns-in-None-clause-found : goal.returns-in-None-clause-found
returns-in-None-clause-found c place r next there =
    let old = opened c.args.outer.now.items in
    let new = opened c.after_item.new.outer.items in
    let kind = c.args.token.kind in
    let state = AfterItem old (sum_of c.in-AfterItem.sum) (tree_of c.in-AfterItem.term) in
    let none : step state kind ≡ None =
    subst (λ (o : Option Stage). MatchOption o (step state kind ≡ None) (λ a. step state kind ≡ Some (stage_of new a)))
    c.in-None.is c.in_ok-after-in-AfterItem.ensures in
    none_steps c.args.text.now place c.args.token (stage_of old c.args.state) r next
    (ap (λ (s : State). step s kind) (ap (stage_of old) c.in-AfterItem.is) ∙ none)
