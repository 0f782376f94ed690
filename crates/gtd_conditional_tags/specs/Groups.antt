-- Items of the same elements.
use Rattle.std.specs.Prelude.{◌≡◌, ◌<◌, ℕ, not, List, [], ◌∷◌, ◌==◌, filter, map, length, slice_index, Some}
use Rattle.std.specs.BTreeMap.{get}
use Rattle.std.specs.List.{All}
use Rattle.std.specs.Ordering.{nat_cmp}
use Rattle.gtd_conditional_tags.specs.declared.groups.ElementItem.{ElementItem}
use Rattle.gtd_conditional_tags.specs.declared.groups.ElementItems.{ElementItems}
use Rattle.gtd_conditional_tags.specs.declared.groups.Groups.{Groups}

-- the numbers, each once, where it first stands
abbrev pub each_once : List ℕ → List ℕ
each_once [] = []
each_once (x ∷ xs) = x ∷ filter (λ y. not (y == x)) (each_once xs)

module _ {T : Type 0} where
  -- the elements of items, and of groups
  abbrev pub elements_of : List (ElementItem T) → List ℕ
  elements_of items = map (λ i. i.element) items

  abbrev pub elements_in : List (ElementItems T) → List ℕ
  elements_in groups = map (λ g. g.element) groups

  -- the items of an element, in their order
  abbrev pub items_of : ℕ → List (ElementItem T) → List T
  items_of element items = map (λ i. i.item) (filter (λ i. i.element == element) items)

  -- each group has the items of its element
  abbrev pub HaveItems : List (ElementItem T) → List (ElementItems T) → Type 0
  HaveItems items groups = All (λ g. g.items.items ≡ items_of g.element items) groups

  -- The groups are those of the items, and each element's place among them is kept.
  pub record AreGrouped (items : List (ElementItem T)) (kept : Groups T) : Type 0 where
    pub order : elements_in kept.groups.items ≡ each_once (elements_of items)
    pub have : HaveItems items kept.groups.items
    pub placed : (k : ℕ) → k < length (elements_in kept.groups.items)
        → get nat_cmp kept.places (slice_index (elements_in kept.groups.items) k) ≡ Some k
    pub found : (e p : ℕ) → get nat_cmp kept.places e ≡ Some p
        → (p < length (elements_in kept.groups.items)) × (slice_index (elements_in kept.groups.items) p ≡ e)
