-- A kind is added for a list that is not empty, so that no kind is without selectors.
use Rattle.std.proofs.Common.{sym, ◌≡◌, ◌∙◌, List, []}
use Rattle.gtd_hours.specs.declared.hours.Kind.{Kind}
use Rattle.gtd_hours.specs.declared.hours.Selector.{Selector}
use Rattle.gtd_hours_text.proofs.DraftLemmas.{kind_more, not_empty}
use Rattle.gtd_hours_text.proofs.draft.with_kind.Goals as goal

same : (a b : List Selector) → a ≡ b → b ≡ [] → a ≡ []
same a b e f = e ∙ f

pub returns : goal.returns
returns c =
    let kind : Kind = record { selectors = c.args.more } in
    kind_more c.args.list.items c.push.new.self.items kind c.in_ok-push.ensures.items
    (λ e. not_empty c.as_slice.result.now (sym c.if-is_empty.ensures)
    (same c.as_slice.result.now c.args.more.items c.as_slice.ensures.value e))
