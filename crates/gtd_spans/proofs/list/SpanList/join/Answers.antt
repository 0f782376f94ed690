use Rattle.std.proofs.Common.{◌≡◌, ◌<◌, ◌+◌, ◌-◌, List, length, set, sym, subst, arith}
use Rattle.std.specs.Prelude.{ℤ, ◌≤ℤ◌}
use Rattle.std.proofs.lemmas.Int.{ints}
use Rattle.std.proofs.lemmas.Grind.{common_steps}
use Rattle.gtd_core.specs.Seconds.{Interval}
use Rattle.gtd_spans.specs.Pushing.{NoneBeginsAfter, SomeReaches}
use Rattle.gtd_spans.proofs.Pushed.{Leaves, leaves-set, leaves-same, reaches-some, reaches-last}
use Rattle.gtd_spans.proofs.list.SpanList.join.Goals as goal

-- what is required of the view holds of the list that is held, which has an element
as_held : (from : ℤ) (items view : List Interval) → items ≡ view → NoneBeginsAfter from view → SomeReaches from view
    → NoneBeginsAfter from items × SomeReaches from items × (0 < length items)
as_held from items view same order reaches =
    let here : SomeReaches from items = subst (SomeReaches from) (sym same) reaches in
    (subst (NoneBeginsAfter from) (sym same) order, here, reaches-some from items here)

left : (c : goal.After-self-1) → Leaves c.self.inside.spans.items c.args.x
    (set c.self.inside.spans.items (c.len-at.result - 1) c.until_later.result)
left c =
    let items : List Interval = c.self.inside.spans.items in
    let known = as_held c.args.x.from items c.args.self.now c.self.view_is c.requires.order c.requires.reaches in
    let len : length items ≡ (c.len-at.result - 1) + 1 = omega (arith, c.len-at.ensures, known.2) in
    let le : c.args.x.from ≤ℤ c.index.result.now.until =
    reaches-last items (c.len-at.result - 1) c.index.result.now c.args.x.from len c.index.ensures c.self.invariant known.1 in
    let later : c.index.result.now.until ≤ℤ c.args.x.until = grind (arith, ints, common_steps) in
    rw (c.until_later.ensures.value, c.until-3.ensures.value)
    (leaves-set items (c.len-at.result - 1) c.index.result.now c.args.x len c.index.ensures c.self.invariant known.0 le later)

pub invariant_of-self : goal.invariant_of-self
invariant_of-self c = (left c).normal

pub returns-clause-seconds : goal.returns-clause-seconds
returns-clause-seconds c = rw (← c.self.view_is) (left c).seconds

pub returns-clause-order : goal.returns-clause-order
returns-clause-order c = (left c).order

pub returns-then-le-clause-seconds : goal.returns-then-le-clause-seconds
returns-then-le-clause-seconds c = λ t.
    let items : List Interval = c.self.inside.spans.items in
    let known = as_held c.args.x.from items c.args.self.now c.self.view_is c.requires.order c.requires.reaches in
    let len : length items ≡ (c.len-at.result - 1) + 1 = omega (arith, c.len-at.ensures, known.2) in
    let le : c.args.x.until ≤ℤ c.index.result.now.until = grind (arith, ints, common_steps) in
    rw (← c.self.view_is) (leaves-same items (c.len-at.result - 1) c.index.result.now c.args.x len c.index.ensures known.0 le t)

pub returns-clause-normal : goal.returns-clause-normal
returns-clause-normal c = (left c).normal
