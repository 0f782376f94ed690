-- One type more: a lower one is alike, it is never closed, some row has it, or its row is put.
use Rattle.std.proofs.Common.{◌≡◌, ◌∙◌, sym, true, false}
use Rattle.gtd_conditional_rows.proofs.GroupLemmas.{grows, some-alike, stays}
use Rattle.gtd_conditional_rows.proofs.groups.put_group.Goals as goal

pub returns-in-Some : goal.returns-in-Some
returns-in-Some c g =
    let low = c.in-Some.ensures in
    stays _ _ _ _ _ g
    (λ ever. some-alike c.args.side.steps.now _ _ _ low.0 c.requires.vehicle low.2 g.each
    (g.all _ low.0 low.1 (λ never. ever (sym low.2 ∙ never))))

pub returns-then-is_grouped : goal.returns-then-is_grouped
returns-then-is_grouped c g =
    stays _ _ _ _ _ g
    (λ ever. rw c.as_slice.ensures.value at (c.is_grouped.ensures.0 c.if-is_grouped.true))

pub returns-in-None : goal.returns-in-None
returns-in-None c g =
    stays _ _ _ _ _ g (λ ever. absurd (ever (rw c.in-None.is at c.in_ok-group_of.ensures)))

pub returns-in_ok-push-in-Some-2 : goal.returns-in_ok-push-in-Some-2
returns-in_ok-push-in-Some-2 c g =
    rw c.in_ok-push-in-Some-2.ensures.items
    (grows _ _ _ _ _ c.in-Some-2.row c.requires.vehicle g
    (λ some. let no : false ≡ true = sym c.if-is_grouped.false ∙ c.is_grouped.ensures.1 (rw c.as_slice.ensures.value some) in cc)
    (rw c.in-Some-2.is at c.in_ok-group_of.ensures))
