-- The last kind is taken off, and comes back with the days.
use Rattle.std.proofs.Common.{◌≡◌, ◌∙◌, ◌++◌, ap, List}
use Rattle.gtd_hours.specs.Writable.{selectors}
use Rattle.gtd_hours.specs.declared.hours.Selector.{Selector}
use Rattle.gtd_hours_known.specs.Joining.{last_with, with_days}
use Rattle.gtd_hours_dated.specs.facts.KindFacts.{kind_more}
use Rattle.gtd_hours_known.proofs.JoiningLemmas.{days_last}
use Rattle.gtd_hours_known.proofs.joining.kinds_with_days.Goals as goal

pub returns-in-Some : goal.returns-in-Some
returns-in-Some c =
    let led = c.args.from.now.is_led in
    let order = c.args.from.now.order.items in
    let days = c.args.days.now in
    let front = selectors c.pop.new.self.items in
    let last = c.in-Some.last in
    let e : with_days led order days (selectors c.args.kinds.items) ≡ front ++ last_with led order days last.selectors.items =
    ap (λ (l : List (List Selector)). with_days led order days l)
    (ap selectors c.in-Some.ensures.items ∙ kind_more c.pop.new.self.items last)
    ∙ days_last led order days front last.selectors.items in
    rw e c.with_last.ensures
