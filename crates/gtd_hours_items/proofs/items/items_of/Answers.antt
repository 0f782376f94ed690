-- One item more at each turn, whichever come behind it; where no token is left, they are all.
use Rattle.std.proofs.Common.{◌++◌, ◌∷◌, [], List, arith, subst, sym, ◌∙◌, ap}
use Rattle.std.proofs.lemmas.List.{nil_from_length}
use Rattle.gtd_hours_items.specs.Fronts.{before_after}
use Rattle.gtd_hours_items.specs.Items.{AreItems, AreItemsLeft, more_by}
use Rattle.gtd_hours_items.specs.declared.items.Item.{Item}
use Rattle.gtd_hours_items.proofs.ItemsLeft.{all_items, item_more}
use Rattle.gtd_hours_items.proofs.items.items_of.Goals as goal

pub loop-token-preserved : goal.loop-token-preserved
loop-token-preserved c more h =
    let text = c.args.text.now in
    let items = c.loop-token.items.items in
    let t = c.in-Some.token.now in
    let ts = c.in-Some.later.now in
    let front = c.front_at-front.result in
    let left : AreItemsLeft (more_by text t ts front) (before_after c.loop-token.before t.kind front) text ts more =
    rw (sym c.more_by-skipped.ensures, sym c.before_after-before.ensures) h
    in
    subst (λ (l : List Item). AreItems text c.args.tokens.now (l ++ more))
    (sym (c.in_ok-push.ensures.items ∙ ap (λ (item : Item). items ++ item ∷ []) c.item_by.ensures))
    (item_more text c.args.tokens.now items c.loop-token.before t ts c.loop-token.rest.now front c.loop-token.skipped
    c.loop-token.invariant c.in-Some.ensures.cases.0 (omega (arith, c.if-skipped-gt0.false)) c.front_at-front.ensures more left)

pub returns : goal.returns
returns c = record {
  items = all_items c.args.text.now c.args.tokens.now c.loop-token.items.items c.loop-token.before c.loop-token.rest.now
      c.loop-token.skipped c.loop-token.invariant (nil_from_length c.loop-token.rest.now c.in_default.ensures.cases);
}
