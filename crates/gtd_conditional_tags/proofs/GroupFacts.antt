-- Groups of items when one more item comes.
use Rattle.std.proofs.Common.{◌≡◌, ◌∙◌, sym, ap, refl, subst, arith, ◌<◌, ◌≤◌, ◌+◌, ◌-◌, ◌⊎◌, inl, inr, ℕ, Bool, true, false}
use Rattle.std.proofs.Common.{List, [], ◌∷◌, ◌++◌, length, get_or, map, cond, eq-eqb}
use Rattle.std.specs.Prelude.{◌==◌, filter, Some, None}
use Rattle.std.specs.BTreeMap.{BTreeMap, get, is_at}
use Rattle.std.specs.Ordering.{is_eq, nat_cmp}
use Rattle.std.proofs.Math.ListN.{set}
use Rattle.std.proofs.Math.Seq.{map-set_same}
use Rattle.std.proofs.lemmas.Bool.{cases_eq, cases_lt, ne_eqb}
use Rattle.std.proofs.lemmas.Bool.Decides.{nat_tests}
use Rattle.std.proofs.lemmas.List.{append-nil, get_or-append_right, get_or-map, get_or-set_other, get_or-set_same}
use Rattle.std.proofs.lemmas.List.{get_or_append_left}
use Rattle.std.proofs.lemmas.List.{length-append, length-map, length-set, map-append}
use Rattle.std.proofs.lemmas.List.Elements.{filter-append}
use Rattle.gtd_conditional_tags.specs.Groups.{AreGrouped, HaveItems, each_once, elements_in, elements_of, items_of}
use Rattle.gtd_conditional_tags.specs.declared.groups.ElementItem.{ElementItem}
use Rattle.gtd_conditional_tags.specs.declared.groups.ElementItems.{ElementItems}
use Rattle.gtd_conditional_tags.specs.declared.groups.Groups.{Groups}
use Rattle.gtd_conditional_tags.proofs.EachOnce.{among_once, found_among, is_among, none_among, once_more, once_same}

-- the last of numbers
last_of : (xs : List ℕ) (e k : ℕ) → length xs ≡ k → get_or (xs ++ e ∷ []) k 0 ≡ e
last_of xs e k last =
    get_or-append_right xs (e ∷ []) k k 0 last (omega arith)
    ∙ ap (λ (n : ℕ). get_or (e ∷ []) n 0) (let z : k - k ≡ 0 = omega arith in z)

below_or_last : (k n : ℕ) → k < n + 1 → (k < n) ⊎ (n ≡ k)
below_or_last k n less = last_or k n less (cases_lt k n) where
  last_or : (k n : ℕ) → k < n + 1 → (k < n) ⊎ (n ≤ k) → (k < n) ⊎ (n ≡ k)
  last_or k n less (inl b) = inl b
  last_or k n less (inr b) = inr (omega arith)

-- how a map of numbers looks up
at_eq : (x y : ℕ) → is_eq (nat_cmp x y) ≡ (x == y)
at_eq x y = grind (arith, nat_tests)

module _ {T : Type 0} where
  -- ---- the items of an element

  more_items : (e : ℕ) (items : List (ElementItem T)) (i : ElementItem T) → i.element ≡ e
      → items_of e (items ++ i ∷ []) ≡ items_of e items ++ i.item ∷ []
  more_items e items i is =
      let kept : filter (λ (o : ElementItem T). o.element == e) (i ∷ []) ≡ i ∷ [] = rw (eq-eqb i.element e is) refl in
      ap (map (λ (o : ElementItem T). o.item)) (
      filter-append (λ (o : ElementItem T). o.element == e) items (i ∷ [])
      ∙ ap (λ (l : List (ElementItem T)). filter (λ (o : ElementItem T). o.element == e) items ++ l) kept
      )
      ∙ map-append (λ (o : ElementItem T). o.item) (filter (λ (o : ElementItem T). o.element == e) items) (i ∷ [])

  same_items : (e : ℕ) (items : List (ElementItem T)) (i : ElementItem T) → (i.element ≡ e → ⊥)
      → items_of e (items ++ i ∷ []) ≡ items_of e items
  same_items e items i other =
      let gone : filter (λ (o : ElementItem T). o.element == e) (i ∷ []) ≡ [] = rw (ne_eqb i.element e other) refl in
      ap (map (λ (o : ElementItem T). o.item)) (
      filter-append (λ (o : ElementItem T). o.element == e) items (i ∷ [])
      ∙ ap (λ (l : List (ElementItem T)). filter (λ (o : ElementItem T). o.element == e) items ++ l) gone
      ∙ append-nil (filter (λ (o : ElementItem T). o.element == e) items)
      )

  no_items : (e : ℕ) (items : List (ElementItem T)) → is_among e (elements_of items) ≡ false → items_of e items ≡ []
  no_items e [] none = refl
  no_items e (i ∷ items) none = no_step e i items (no_items e items) none (cases_eq i.element e) where
    no_step : (e : ℕ) (i : ElementItem T) (items : List (ElementItem T))
        → (is_among e (elements_of items) ≡ false → items_of e items ≡ []) → is_among e (elements_of (i ∷ items)) ≡ false
        → (i.element ≡ e) ⊎ (i.element ≡ e → ⊥) → items_of e (i ∷ items) ≡ []
    no_step e i items rest none (inl same) = let yes : (i.element == e) ≡ true = eq-eqb i.element e same in
        let t = rw yes at none in cc
    no_step e i items rest none (inr other) = let no : (i.element == e) ≡ false = ne_eqb i.element e other in
        let t : is_among e (elements_of items) ≡ false = rw no at none in rw no (rest t)

  elements_more : (items : List (ElementItem T)) (i : ElementItem T)
      → elements_of (items ++ i ∷ []) ≡ elements_of items ++ i.element ∷ []
  elements_more items i = map-append (λ (o : ElementItem T). o.element) items (i ∷ [])

  -- the element of a group
  element_at : (groups : List (ElementItems T)) (k : ℕ) (d : ElementItems T) → k < length groups
      → get_or (elements_in groups) k 0 ≡ (get_or groups k d).element
  element_at groups k d less = get_or-map (λ (g : ElementItems T). g.element) groups k d 0 less

  pub count_in : (groups : List (ElementItems T)) → length (elements_in groups) ≡ length groups
  count_in groups = length-map groups (λ (g : ElementItems T). g.element)

  module _ (items : List (ElementItem T)) (kept after : Groups T) (are : AreGrouped items kept) (i : ElementItem T) where
    -- ---- an item of an element that is there

    module _ (p : ℕ) (is : get nat_cmp kept.places i.element ≡ Some p) (was more : ElementItems T)
        (was_is : was ≡ get_or kept.groups.items p was) (named : more.element ≡ was.element)
        (has : more.items.items ≡ was.items.items ++ i.item ∷ [])
        (groups : after.groups.items ≡ set kept.groups.items p more) (places : after.places ≡ kept.places) where
      inside : p < length kept.groups.items
      inside = let f = are.found i.element p is in let c = count_in kept.groups.items in omega (arith, f.0, c)

      its : was.element ≡ i.element
      its =
          ap (λ (g : ElementItems T). g.element) was_is ∙ sym (element_at kept.groups.items p was inside)
          ∙ (are.found i.element p is).1

      elements : elements_in after.groups.items ≡ elements_in kept.groups.items
      elements =
          ap elements_in groups
          ∙ map-set_same (λ (g : ElementItems T). g.element) kept.groups.items p more was
          (named ∙ ap (λ (g : ElementItems T). g.element) was_is)

      have_step : (k : ℕ) (d : ElementItems T) → k < length kept.groups.items → (k ≡ p) ⊎ (k ≡ p → ⊥)
          → (get_or (set kept.groups.items p more) k d).items.items
          ≡ items_of (get_or (set kept.groups.items p more) k d).element (items ++ i ∷ [])
      have_step k d less (inl same) =
          let at : get_or (set kept.groups.items p more) k d ≡ more =
          ap (λ (n : ℕ). get_or (set kept.groups.items p more) n d) same ∙ get_or-set_same kept.groups.items p more d inside in
          let old : was.items.items ≡ items_of was.element items =
          subst (λ (g : ElementItems T). g.items.items ≡ items_of g.element items) (sym was_is) (are.have p was inside) in
          subst (λ (g : ElementItems T). g.items.items ≡ items_of g.element (items ++ i ∷ [])) (sym at) (
          has ∙ ap (λ (l : List T). l ++ i.item ∷ []) old ∙ sym (more_items was.element items i (sym its))
          ∙ ap (λ (e : ℕ). items_of e (items ++ i ∷ [])) (sym named)
          )
      have_step k d less (inr other) =
          let at : get_or (set kept.groups.items p more) k d ≡ get_or kept.groups.items k d =
          get_or-set_other kept.groups.items p k more d other in
          let e = element_at kept.groups.items k d less in
          let c = count_in kept.groups.items in
          let apart : i.element ≡ (get_or kept.groups.items k d).element → ⊥ =
          λ (same : i.element ≡ (get_or kept.groups.items k d).element).
          other (let two : Some k ≡ Some p = sym (are.placed k (omega (arith, c)))
          ∙ ap (get nat_cmp kept.places) (e ∙ sym same) ∙ is in cc) in
          subst (λ (g : ElementItems T). g.items.items ≡ items_of g.element (items ++ i ∷ [])) (sym at)
          (are.have k d less ∙ sym (same_items (get_or kept.groups.items k d).element items i apart))

      pub joined : AreGrouped (items ++ i ∷ []) after
      joined =
          let f = are.found i.element p is in
          let among : is_among i.element (each_once (elements_of items)) ≡ true =
          ap (is_among i.element) (sym are.order) ∙ found_among (elements_in kept.groups.items) p i.element f.0 f.1 in
          record {
            order =
                elements ∙ are.order ∙ sym (once_same (elements_of items) i.element among)
                ∙ ap each_once (sym (elements_more items i));
            have =
                subst (λ (l : List (ElementItems T)). HaveItems (items ++ i ∷ []) l) (sym groups)
                (λ (k : ℕ) (d : ElementItems T) (less : k < length (set kept.groups.items p more)).
                have_step k d (subst (λ (n : ℕ). k < n) (length-set kept.groups.items p more) less) (cases_eq k p));
            placed =
                subst (λ (l : List ℕ). (k : ℕ) → k < length l → get nat_cmp after.places (get_or l k 0) ≡ Some k) (sym elements)
                (subst (λ (m : BTreeMap ℕ ℕ). (k : ℕ) → k < length (elements_in kept.groups.items)
                → get nat_cmp m (get_or (elements_in kept.groups.items) k 0) ≡ Some k) (sym places) are.placed);
            found =
                subst (λ (l : List ℕ). (e q : ℕ) → get nat_cmp after.places e ≡ Some q → (q < length l) × (get_or l q 0 ≡ e))
                (sym elements)
                (subst (λ (m : BTreeMap ℕ ℕ). (e q : ℕ) → get nat_cmp m e ≡ Some q
                → (q < length (elements_in kept.groups.items)) × (get_or (elements_in kept.groups.items) q 0 ≡ e)) (sym places)
                are.found);
          }

    -- ---- an item of another element

    module _ (is : get nat_cmp kept.places i.element ≡ None) (more : ElementItems T) (named : more.element ≡ i.element)
        (has : more.items.items ≡ i.item ∷ []) (groups : after.groups.items ≡ kept.groups.items ++ more ∷ [])
        (places : (q : ℕ) → get nat_cmp after.places q
        ≡ cond (is_at (nat_cmp i.element) q) (Some (length kept.groups.items)) (get nat_cmp kept.places q)) where
      apart_at : (k : ℕ) → k < length (elements_in kept.groups.items) → get_or (elements_in kept.groups.items) k 0 ≡ i.element → ⊥
      apart_at k less same =
          let two : Some k ≡ None = sym (are.placed k less) ∙ ap (get nat_cmp kept.places) same ∙ is in cc

      elements' : elements_in after.groups.items ≡ elements_in kept.groups.items ++ i.element ∷ []
      elements' =
          ap elements_in groups ∙ map-append (λ (g : ElementItems T). g.element) kept.groups.items (more ∷ [])
          ∙ ap (λ (e : ℕ). elements_in kept.groups.items ++ e ∷ []) named

      none_there : is_among i.element (each_once (elements_of items)) ≡ false
      none_there = ap (is_among i.element) (sym are.order) ∙ none_among (elements_in kept.groups.items) i.element apart_at

      at_new : get nat_cmp after.places i.element ≡ Some (length kept.groups.items)
      at_new =
          places i.element
          ∙ ap (λ (b : Bool). cond b (Some (length kept.groups.items)) (get nat_cmp kept.places i.element))
          (at_eq i.element i.element ∙ eq-eqb i.element i.element refl)

      at_other : (q : ℕ) → (i.element ≡ q → ⊥) → get nat_cmp after.places q ≡ get nat_cmp kept.places q
      at_other q other =
          places q
          ∙ ap (λ (b : Bool). cond b (Some (length kept.groups.items)) (get nat_cmp kept.places q))
          (at_eq i.element q ∙ ne_eqb i.element q other)

      have_new : (k : ℕ) (d : ElementItems T) → k < length (kept.groups.items ++ more ∷ [])
          → (k < length kept.groups.items) ⊎ (length kept.groups.items ≡ k)
          → (get_or (kept.groups.items ++ more ∷ []) k d).items.items
          ≡ items_of (get_or (kept.groups.items ++ more ∷ []) k d).element (items ++ i ∷ [])
      have_new k d less (inl before) =
          let at : get_or (kept.groups.items ++ more ∷ []) k d ≡ get_or kept.groups.items k d =
          get_or_append_left kept.groups.items (more ∷ []) d k before in
          let e = element_at kept.groups.items k d before in
          let c = count_in kept.groups.items in
          let apart : i.element ≡ (get_or kept.groups.items k d).element → ⊥ =
          λ (same : i.element ≡ (get_or kept.groups.items k d).element). apart_at k (omega (arith, c)) (e ∙ sym same) in
          subst (λ (g : ElementItems T). g.items.items ≡ items_of g.element (items ++ i ∷ [])) (sym at)
          (are.have k d before ∙ sym (same_items (get_or kept.groups.items k d).element items i apart))
      have_new k d less (inr last) =
          let at : get_or (kept.groups.items ++ more ∷ []) k d ≡ more =
          ap (λ (n : ℕ). get_or (kept.groups.items ++ more ∷ []) n d) (sym last)
          ∙ get_or-append_right kept.groups.items (more ∷ []) (length kept.groups.items) (length kept.groups.items) d refl
          (omega arith)
          ∙ ap (λ (n : ℕ). get_or (more ∷ []) n d)
          (let z : length kept.groups.items - length kept.groups.items ≡ 0 = omega arith in z) in
          let none : items_of i.element items ≡ [] =
          no_items i.element items (sym (among_once i.element (elements_of items)) ∙ none_there) in
          subst (λ (g : ElementItems T). g.items.items ≡ items_of g.element (items ++ i ∷ [])) (sym at) (
          has ∙ ap (λ (l : List T). l ++ i.item ∷ []) (sym none) ∙ sym (more_items i.element items i refl)
          ∙ ap (λ (e : ℕ). items_of e (items ++ i ∷ [])) (sym named)
          )

      placed_new : (k : ℕ) → (k < length (elements_in kept.groups.items)) ⊎ (length (elements_in kept.groups.items) ≡ k)
          → get nat_cmp after.places (get_or (elements_in kept.groups.items ++ i.element ∷ []) k 0) ≡ Some k
      placed_new k (inl before) =
          ap (get nat_cmp after.places) (get_or_append_left (elements_in kept.groups.items) (i.element ∷ []) 0 k before)
          ∙ at_other (get_or (elements_in kept.groups.items) k 0)
          (λ (same : i.element ≡ get_or (elements_in kept.groups.items) k 0). apart_at k before (sym same))
          ∙ are.placed k before
      placed_new k (inr last) =
          ap (get nat_cmp after.places) (last_of (elements_in kept.groups.items) i.element k last)
          ∙ at_new ∙ ap Some (sym (count_in kept.groups.items) ∙ last)

      found_new : (e q : ℕ) → get nat_cmp after.places e ≡ Some q → (i.element ≡ e) ⊎ (i.element ≡ e → ⊥)
          → (q < length (elements_in kept.groups.items ++ i.element ∷ []))
          × (get_or (elements_in kept.groups.items ++ i.element ∷ []) q 0 ≡ e)
      found_new e q there (inl same) =
          let two : Some (length kept.groups.items) ≡ Some q = sym at_new ∙ ap (get nat_cmp after.places) same ∙ there in
          let n : length (elements_in kept.groups.items) ≡ q = count_in kept.groups.items ∙ (cc) in
          let l = length-append (elements_in kept.groups.items) (i.element ∷ []) in
          (omega (arith, l, n), last_of (elements_in kept.groups.items) i.element q n ∙ same)
      found_new e q there (inr other) =
          let f = are.found e q (sym (at_other e other) ∙ there) in
          let l = length-append (elements_in kept.groups.items) (i.element ∷ []) in (
            omega (arith, l, f.0),
            get_or_append_left (elements_in kept.groups.items) (i.element ∷ []) 0 q f.0 ∙ f.1,
          )

      pub begun : AreGrouped (items ++ i ∷ []) after
      begun = record {
        order =
            elements' ∙ ap (λ (l : List ℕ). l ++ i.element ∷ []) are.order
            ∙ sym (once_more (elements_of items) i.element none_there) ∙ ap each_once (sym (elements_more items i));
        have =
            subst (λ (l : List (ElementItems T)). HaveItems (items ++ i ∷ []) l) (sym groups)
            (λ (k : ℕ) (d : ElementItems T) (less : k < length (kept.groups.items ++ more ∷ [])).
            have_new k d less (below_or_last k (length kept.groups.items)
            (subst (λ (n : ℕ). k < n) (length-append kept.groups.items (more ∷ [])) less)));
        placed =
            subst (λ (l : List ℕ). (k : ℕ) → k < length l → get nat_cmp after.places (get_or l k 0) ≡ Some k) (sym elements')
            (λ (k : ℕ) (less : k < length (elements_in kept.groups.items ++ i.element ∷ [])).
            placed_new k (below_or_last k (length (elements_in kept.groups.items))
            (subst (λ (n : ℕ). k < n) (length-append (elements_in kept.groups.items) (i.element ∷ [])) less)));
        found =
            subst (λ (l : List ℕ). (e q : ℕ) → get nat_cmp after.places e ≡ Some q → (q < length l) × (get_or l q 0 ≡ e))
            (sym elements')
            (λ (e q : ℕ) (there : get nat_cmp after.places e ≡ Some q). found_new e q there (cases_eq i.element e));
      }

  -- nothing is grouped yet
  pub none_grouped : (kept : Groups T) → kept.groups.items ≡ [] → kept.places.entries ≡ [] → AreGrouped [] kept
  none_grouped kept groups places = record {
    order = ap elements_in groups;
    have = subst (λ (l : List (ElementItems T)). HaveItems [] l) (sym groups)
        (λ (k : ℕ) (d : ElementItems T) (less : k < 0). absurd (omega arith));
    placed = subst (λ (l : List (ElementItems T)). (k : ℕ) → k < length (elements_in l)
        → get nat_cmp kept.places (get_or (elements_in l) k 0) ≡ Some k) (sym groups)
        (λ (k : ℕ) (less : k < 0). absurd (omega arith));
    found = λ (e p : ℕ) (there : get nat_cmp kept.places e ≡ Some p).
        absurd (let no : None ≡ Some p = rw places at there in cc);
  }
