-- The item goes to the others of its element, or begins a group.
use Rattle.std.proofs.Common.{◌≡◌, ◌∙◌, ◌++◌, ◌∷◌, [], ap, arith, cond, refl, sym, ℕ, length}
use Rattle.std.specs.Prelude.{Some}
use Rattle.std.specs.BTreeMap.{get, is_at}
use Rattle.std.specs.Ordering.{nat_cmp}
use Rattle.gtd_conditional_tags.proofs.GroupFacts.{begun, count_in, joined}
use Rattle.gtd_conditional_tags.proofs.groups.Groups.add.Goals as goal

pub returns-in_ok-push-in-Some : goal.returns-in_ok-push-in-Some
returns-in_ok-push-in-Some g c = λ before are.
    joined before c.args.self.now _ are c.args.item c.in-Some.place.now (sym c.in-Some.ensures.value) c.index_mut.result.now _
    c.index_mut.ensures.value refl c.in_ok-push-in-Some.ensures.items refl refl

pub returns-else-place-len : goal.returns-else-place-len
returns-else-place-len g c = λ before are.
    let there = (are.found c.args.item.element c.in-Some.place.now (sym c.in-Some.ensures.value)).0 in
    let count = count_in c.args.self.now.groups.items in
    absurd (omega (arith, there, count))

pub returns-in_ok-push-in-None-2 : goal.returns-in_ok-push-in-None-2
returns-in_ok-push-in-None-2 g c = λ before are.
    let n : c.len-in-None.result ≡ length c.args.self.now.groups.items = omega arith in
    begun before c.args.self.now _ are c.args.item (sym c.in-None.ensures.value) _ refl
    (c.in_ok-push-in-None.ensures.items ∙ ap (λ l. l ++ c.args.item.item ∷ []) c.new-items.ensures.items)
    c.in_ok-push-in-None-2.ensures.items
    (λ (q : ℕ). c.in_ok-insert-in-None.ensures.updates.0 q
    ∙ ap (λ (m : ℕ). cond (is_at (nat_cmp c.args.item.element) q) (Some m) (get nat_cmp c.args.self.now.places q)) n)
