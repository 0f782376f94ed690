-- The items are those of the tokens.
use Rattle.std.proofs.Common.{List, subst}
use Rattle.gtd_hours_tokens.specs.declared.token.Token.{Token}
use Rattle.gtd_hours_items.specs.Items.{AreItems}
use Rattle.gtd_hours_holiday_rules.proofs.text.items_in.Goals as goal

pub returns-clause-items : goal.returns-clause-items
returns-clause-items c = record {
  tokens = c.in_ok-tokens.tokens.items;
  are = c.in_ok-tokens.ensures.tokens;
  whole = c.in_ok-tokens.ensures.whole;
  made = subst (λ (l : List Token). AreItems c.args.text.now l c.in_ok-items.items.items) c.as_slice.ensures.value
      c.in_ok-items.ensures.items;
}
