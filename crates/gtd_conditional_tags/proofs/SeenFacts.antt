-- Which elements and keys were seen, when one more tag comes.
use Rattle.std.proofs.Common.{◌≡◌, ◌∙◌, sym, ap, refl, arith, ℕ, Bool, true, false, ◌&&◌, ◌||◌, not, cond, List, [], ◌∷◌, ◌++◌}
use Rattle.std.specs.Prelude.{◌==◌}
use Rattle.std.specs.BTreeMap.{is_at}
use Rattle.std.specs.BTreeSet.{BTreeSet, Updates, contains}
use Rattle.std.specs.List.{list_any}
use Rattle.std.specs.Ordering.{is_eq, nat_cmp, ordering_then}
use Rattle.std.specs.declared.cmp.Ordering.{Ordering}
use Rattle.std.specs.declared.cmp.Ordering.TheVariants as ordering
use Rattle.std.proofs.lemmas.Bool.Decides.{nat_tests}
use Rattle.std.proofs.lemmas.List.Folds.{list_any-append}
use Rattle.gtd_conditional_tags.specs.Keys.{form_of}
use Rattle.gtd_conditional_tags.specs.Rows.{Said, is_tag_of}
use Rattle.gtd_conditional_tags.specs.TakenRows.{AreSeen, SeenKey, is_seen_as, seen_cmp}

-- how the set looks up
at_eq : (x y : ℕ) → is_eq (nat_cmp x y) ≡ (x == y)
at_eq x y = grind (arith, nat_tests)

then_eq : (one other : Ordering) → is_eq (ordering_then one other) ≡ (is_eq one && is_eq other)
then_eq ordering.Less other = refl
then_eq ordering.Equal other = refl
then_eq ordering.Greater other = refl

and_right_first : (x y z : Bool) → ((x && y) && z) ≡ (x && (y && z))
and_right_first true y z = refl
and_right_first false y z = refl

seen_eq : (e m f : ℕ) (tag : Said)
    → is_at (seen_cmp (tag.element, tag.key.mode, form_of tag.key)) (e, m, f) ≡ is_seen_as e m f tag
seen_eq e m f tag =
    let a : is_eq (nat_cmp tag.element e) ≡ (tag.element == e) = at_eq tag.element e in
    let b : is_eq (nat_cmp tag.key.mode m) ≡ (tag.key.mode == m) = at_eq tag.key.mode m in
    let d : is_eq (nat_cmp (form_of tag.key) f) ≡ (form_of tag.key == f) = at_eq (form_of tag.key) f in
    then_eq (ordering_then (nat_cmp tag.element e) (nat_cmp tag.key.mode m)) (nat_cmp (form_of tag.key) f)
    ∙ ap (λ (x : Bool). x && is_eq (nat_cmp (form_of tag.key) f)) (
    then_eq (nat_cmp tag.element e) (nat_cmp tag.key.mode m)
    ∙ ap (λ (x : Bool). x && is_eq (nat_cmp tag.key.mode m)) a ∙ ap (λ (x : Bool). (tag.element == e) && x) b
    )
    ∙ ap (λ (x : Bool). ((tag.element == e) && (tag.key.mode == m)) && x) d
    ∙ and_right_first (tag.element == e) (tag.key.mode == m) (form_of tag.key == f)

or_last : (b x : Bool) → cond b true x ≡ (x || (b || false))
or_last true true = refl
or_last true false = refl
or_last false true = refl
or_last false false = refl

module _ (seen : BTreeSet SeenKey) (tags : List Said) (are : AreSeen seen tags) (tag : Said) (f : ℕ)
    (form : f ≡ form_of tag.key) where
  -- whether the key of the tag was seen is whether an earlier tag of the element has it
  pub seen_before : contains seen_cmp seen (tag.element, tag.key.mode, f) ≡ list_any (is_tag_of tag.element tag.key) tags
  seen_before =
      are tag.element tag.key.mode f
      ∙ ap (λ (n : ℕ). list_any (is_seen_as tag.element tag.key.mode n) tags) form

  -- then it is seen too
  pub seen_more : (new : BTreeSet SeenKey) → Updates seen_cmp seen new (tag.element, tag.key.mode, f) true
      → AreSeen new (tags ++ tag ∷ [])
  seen_more new updates = λ (e m n : ℕ).
      updates.0 (e, m, n)
      ∙ ap (λ (k : ℕ). cond (is_at (seen_cmp (tag.element, tag.key.mode, k)) (e, m, n)) true (contains seen_cmp seen (e, m, n)))
      form
      ∙ ap (λ (b : Bool). cond b true (contains seen_cmp seen (e, m, n))) (seen_eq e m n tag)
      ∙ ap (λ (x : Bool). cond (is_seen_as e m n tag) true x) (are e m n)
      ∙ or_last (is_seen_as e m n tag) (list_any (is_seen_as e m n) tags)
      ∙ sym (list_any-append (is_seen_as e m n) tags (tag ∷ []))

-- what an insertion tells
pub was_there : (there added : Bool) → added ≡ not there → added ≡ false → there ≡ true
was_there true added e f = refl
was_there false added e f = cc

pub was_new : (there added : Bool) → added ≡ not there → added ≡ true → there ≡ false
was_new true added e f = cc
was_new false added e f = refl

-- nothing was seen yet
pub none_seen : (seen : BTreeSet SeenKey) → seen.keys ≡ [] → AreSeen seen []
none_seen seen none = λ (e m f : ℕ). ap (list_any (is_at (seen_cmp (e, m, f)))) none

-- sets of the same keys
pub same_seen : (seen new : BTreeSet SeenKey) (tags : List Said) → new.keys ≡ seen.keys → AreSeen seen tags → AreSeen new tags
same_seen seen new tags same are = λ (e m f : ℕ). ap (list_any (is_at (seen_cmp (e, m, f)))) same ∙ are e m f
