-- When the rows of a file close an element: exactly if its tags do.
use Rattle.std.proofs.Common.{◌≡◌, ◌∙◌, ap, arith, eqb-true, inl, inr, length, length-append, map, not, refl, subst, sym}
use Rattle.std.proofs.Common.{ℕ, zero, suc, Bool, true, false, List, [], ◌∷◌, ◌++◌}
use Rattle.std.specs.Prelude.{◌⊎◌, ◌↔◌, ◌==◌, ℤ, filter, Option, Some, None, Result, Ok, Err}
use Rattle.std.specs.List.Sorted.{IsPermutation}
use Rattle.std.proofs.lemmas.List.Elements.{All-head, All-tail}
use Rattle.std.proofs.lemmas.List.Sorted.{length_permutation}
use Rattle.gtd_rows.specs.declared.direction.Direction.{Direction}
use Rattle.gtd_rows.specs.declared.vehicles.Vehicles.{Vehicles}
use Rattle.gtd_hours_options.specs.Readings.{HowRead}
use Rattle.gtd_conditional_means.specs.declared.meaning.MeansRow.{MeansRow}
use Rattle.gtd_conditional_parts.specs.declared.said.Subject.{Subject}
use Rattle.gtd_conditional_parts.specs.declared.said.Subject.TheVariants.{Access, Oneway}
use Rattle.gtd_conditional_rows.specs.Rows.{IsClosedByRow}
use Rattle.gtd_conditional_rows.specs.Types.{IsVehicle}
use Rattle.gtd_conditional_rows.specs.declared.row.Row.{Row}
use Rattle.gtd_conditional_steps.specs.Closing.{IsClosedByTags}
use Rattle.gtd_conditional_steps.specs.Sayings.{mode_types, said_before, said_by_types}
use Rattle.gtd_conditional_tags.specs.Groups.{HaveItems, each_once, elements_in, elements_of, items_of}
use Rattle.gtd_conditional_tags.specs.declared.groups.ElementItem.{ElementItem}
use Rattle.gtd_conditional_tags.specs.declared.groups.ElementItems.{ElementItems}
use Rattle.gtd_conditional_elements.specs.Elements.{AreEach, IsElement, fault_in, rows_in, tags_of}
use Rattle.gtd_conditional_elements.specs.File.{AreOfFile}
use Rattle.gtd_conditional_elements.specs.FileClosing.{SomeCloses, TagsClose}
use Rattle.gtd_conditional_elements.specs.declared.fault.ConditionsFault.{ConditionsFault}
use Rattle.gtd_conditional_elements.specs.declared.found.ElementRow.{ElementRow}
use Rattle.gtd_conditional_elements.specs.declared.tag.ReadTag.{ReadTag}
use Rattle.gtd_conditional_elements.proofs.ElementFacts.{element_closes}

-- ---- elements that have tags

none_left : {X : Type 0} (a b c : List X) → IsPermutation (a ++ b ++ c) [] → c ≡ []
none_left a b [] moved = refl
none_left a b (x ∷ c) moved =
    let e = length_permutation _ _ moved in
    let l = length-append (a ++ b) (x ∷ c) in absurd (omega arith)

module _ (e : ℕ) where
  -- the number is one of them
  abbrev In : List ℕ → Type 0
  In [] = ⊥
  In (x ∷ xs) = (x ≡ e) ⊎ In xs

  in_kept_by : (p : ℕ → Bool) (b : Bool) (x : ℕ) (xs : List ℕ) → p x ≡ b → p e ≡ true
      → (In xs → In (filter p xs)) → In (x ∷ xs) → In (filter p (x ∷ xs))
  in_kept_by p true x xs is keep more (inl here) = rw is (inl here)
  in_kept_by p true x xs is keep more (inr later) = rw is (inr (more later))
  in_kept_by p false x xs is keep more (inl here) = absurd (let same = ap p here in cc)
  in_kept_by p false x xs is keep more (inr later) = rw is (more later)

  in_kept : (p : ℕ → Bool) (xs : List ℕ) → p e ≡ true → In xs → In (filter p xs)
  in_kept p [] keep i = absurd i
  in_kept p (x ∷ xs) keep i = in_kept_by p (p x) x xs refl keep (in_kept p xs keep) i

  in_once_by : (b : Bool) (x : ℕ) (xs : List ℕ) → (e == x) ≡ b → (In xs → In (each_once xs)) → In (x ∷ xs)
      → In (each_once (x ∷ xs))
  in_once_by true x xs is more i = inl (sym (eqb-true e x is))
  in_once_by false x xs is more (inl here) = inl here
  in_once_by false x xs is more (inr later) =
      inr (in_kept (λ (y : ℕ). not (y == x)) (each_once xs) (ap not is) (more later))

  in_once : (xs : List ℕ) → In xs → In (each_once xs)
  in_once [] i = absurd i
  in_once (x ∷ xs) i = in_once_by (e == x) x xs refl (in_once xs) i

  in_items_by : (b : Bool) (i : ElementItem ReadTag) (items : List (ElementItem ReadTag)) → (i.element == e) ≡ b
      → ((items_of e items ≡ [] → ⊥) → In (elements_of items)) → (items_of e (i ∷ items) ≡ [] → ⊥)
      → In (elements_of (i ∷ items))
  in_items_by true i items is more some = inl (eqb-true i.element e is)
  in_items_by false i items is more some = inr (more (λ none. some (rw is none)))

  -- an element that has items is one of the items' elements
  in_items : (items : List (ElementItem ReadTag)) → (items_of e items ≡ [] → ⊥) → In (elements_of items)
  in_items [] some = absurd (some refl)
  in_items (i ∷ items) some = in_items_by (i.element == e) i items refl (in_items items) some

-- the group has the items of its element
abbrev Has : List (ElementItem ReadTag) → ElementItems ReadTag → Type 0
Has sound group = group.items.items ≡ items_of group.element sound

module _ (means : List MeansRow) (direction : Direction) (t : ℕ) (s : ℤ) where
  -- ---- no tags close nothing

  said_by_none : (types : Option Vehicles) (mode : ℕ) → said_by_types types mode direction [] ≡ []
  said_by_none None mode = refl
  said_by_none (Some types) mode = refl

  said_none : (n : ℕ) (subject : Subject) → said_before n subject means direction [] ≡ []
  said_none zero subject = refl
  said_none (suc n) subject = rw (said_none n subject) (said_by_none (mode_types subject means n) n)

  none_close : (subject : Subject) → IsClosedByTags means subject [] direction t s → ⊥
  none_close subject h = rw (said_none (length means) subject) at h

  -- the tags of an element close it
  abbrev Close : List ReadTag → Type 0
  Close read =
      IsClosedByTags means Access (tags_of read) direction t s ⊎ IsClosedByTags means Oneway (tags_of read) direction t s

  no_read : Close [] → ⊥
  no_read (inl access) = none_close Access access
  no_read (inr oneway) = none_close Oneway oneway

  module _ (vehicle : IsVehicle t) (e : ℕ) where
    -- ---- rows of elements

    rows_close : (element : ℕ) (rows : List Row)
        → SomeCloses e direction t s (map (λ (row : Row). record { element = element; row = row }) rows)
        ↔ ((element ≡ e) × IsClosedByRow rows direction t s)
    rows_close element [] = ((λ h. absurd h), (λ h. absurd h.1))
    rows_close element (row ∷ rows) =
        let more = rows_close element rows in (
          (λ h. elim h [
            | inl here ↦ (here.names, inl (here.closes, here.has, here.holds))
            | inr later ↦ let m = more.0 later in (m.0, inr m.1)
          ]),
          (λ h. elim h.1 [
            | inl here ↦ inl (record { names = h.0; closes = here.0; has = here.1; holds = here.2 })
            | inr later ↦ inr (more.1 (h.0, later))
          ]),
        )

    some_append : (a b : List ElementRow)
        → SomeCloses e direction t s (a ++ b) ↔ (SomeCloses e direction t s a ⊎ SomeCloses e direction t s b)
    some_append [] b = ((λ h. inr h), (λ h. elim h [ inl none ↦ absurd none | inr later ↦ later ]))
    some_append (row ∷ a) b =
        let more = some_append a b in (
          (λ h. elim h [
            | inl here ↦ inl (inl here)
            | inr rest ↦ elim (more.0 rest) [ inl first ↦ inl (inr first) | inr later ↦ inr later ]
          ]),
          (λ h. elim h [
            | inl first ↦ elim first [ inl here ↦ inl here | inr rest ↦ inr (more.1 (inl rest)) ]
            | inr later ↦ inr (more.1 (inr later))
          ]),
        )

    -- some group is one of the element, and its tags close it
    abbrev SomeGroup : List (ElementItems ReadTag) → Type 0
    SomeGroup [] = ⊥
    SomeGroup (group ∷ groups) = ((group.element ≡ e) × Close group.items.items) ⊎ SomeGroup groups

    groups_close_by : (group : ElementItems ReadTag) (groups : List (ElementItems ReadTag))
        (answer : Result (List Row) ConditionsFault) (found more : List ElementRow) (faults others : List ConditionsFault)
        → faults ≡ [] → IsElement means group answer → found ≡ rows_in group.element answer ++ more
        → faults ≡ fault_in answer ++ others → (others ≡ [] → SomeCloses e direction t s more ↔ SomeGroup groups)
        → SomeCloses e direction t s found ↔ SomeGroup (group ∷ groups)
    groups_close_by group groups (Ok rows) found more faults others none is whole all later =
        let rest = later (sym all ∙ none) in
        let own = rows_close group.element rows in
        let tags = element_closes means (tags_of group.items.items) rows is direction t s vehicle in
        let both = some_append (rows_in group.element (Ok rows)) more in
        rw whole (
          (λ h. elim (both.0 h) [
            | inl here ↦ let o = own.0 here in inl (o.0, tags.0 o.1)
            | inr after ↦ inr (rest.0 after)
          ]),
          (λ h. elim h [
            | inl here ↦ both.1 (inl (own.1 (here.0, tags.1 here.1)))
            | inr after ↦ both.1 (inr (rest.1 after))
          ]),
        )
    groups_close_by group groups (Err why) found more faults others none is whole all later =
        let no_fault : why ∷ others ≡ [] = sym all ∙ none in absurd cc

    groups_close : (groups : List (ElementItems ReadTag)) (found : List ElementRow) (faults : List ConditionsFault)
        → faults ≡ [] → AreEach means groups found faults → SomeCloses e direction t s found ↔ SomeGroup groups
    groups_close [] found faults none are = rw (are.0) ((λ h. h), (λ h. h))
    groups_close (group ∷ groups) found faults none are =
        groups_close_by group groups are.0 found are.1 faults are.2 none are.3 are.5 are.6
        (λ left. groups_close groups are.1 are.2 left are.4)

    -- ---- groups of tags

    group_has : (sound : List (ElementItem ReadTag)) (groups : List (ElementItems ReadTag)) → HaveItems sound groups
        → SomeGroup groups → Close (items_of e sound)
    group_has sound [] have some = absurd some
    group_has sound (group ∷ groups) have (inl here) =
        let own = All-head (Has sound) group groups have in
        subst (λ (x : ℕ). Close (items_of x sound)) here.0 (subst Close own here.1)
    group_has sound (group ∷ groups) have (inr later) = group_has sound groups (All-tail (Has sound) group groups have) later

    in_group : (sound : List (ElementItem ReadTag)) (groups : List (ElementItems ReadTag)) → HaveItems sound groups
        → In e (elements_in groups) → Close (items_of e sound) → SomeGroup groups
    in_group sound [] have i close = absurd i
    in_group sound (group ∷ groups) have (inl here) close =
        let own = All-head (Has sound) group groups have in
        inl (here, subst Close (sym own) (subst (λ (x : ℕ). Close (items_of x sound)) (sym here) close))
    in_group sound (group ∷ groups) have (inr later) close =
        inr (in_group sound groups (All-tail (Has sound) group groups have) later close)

    pub file_closes : (how : HowRead) (bytes : List ℕ) (rows : List ElementRow) (file : AreOfFile how means bytes rows [])
        → SomeCloses e direction t s rows ↔ TagsClose means e direction t s file.sound
    file_closes how bytes rows file =
        let none = none_left _ file.of_values file.of_elements file.listed.all in
        let by = groups_close file.groups rows file.of_elements none file.each in (
          (λ h. group_has file.sound file.groups file.grouped.items (by.0 h)),
          (λ h.
              let some : items_of e file.sound ≡ [] → ⊥ = λ nothing. no_read (subst Close nothing h) in
              let named = in_once e (elements_of file.sound) (in_items e file.sound some) in
              by.1 (in_group file.sound file.groups file.grouped.items (subst (In e) (sym file.grouped.order) named) h)),
        )
