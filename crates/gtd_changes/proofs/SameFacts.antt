-- The text of changes is the header alone exactly if both files close the same seconds.
use Rattle.std.proofs.Common.{◌≡◌, ◌∙◌, ap, ap₂, sym, refl, subst, arith, inl, inr, map, ℕ, List, [], ◌∷◌, ◌++◌}
use Rattle.std.specs.Prelude.{ℤ, Any, ◌↔◌}
use Rattle.std.proofs.lemmas.Int.{ints}
use Rattle.gtd_core.specs.Seconds.{Interval, Within}
use Rattle.gtd_core.specs.Whole.{whole}
use Rattle.gtd_core.specs.declared.horizon.Horizon.{Horizon}
use Rattle.gtd_eval.specs.Membership.{IsNormalOver}
use Rattle.gtd_records.specs.Closing.{Closes, IsClosed, Restriction}
use Rattle.gtd_rows.specs.declared.direction.Direction.{Direction}
use Rattle.gtd_rows.specs.declared.direction.Direction.TheVariants.{Positive, Negative}
use Rattle.gtd_rows.specs.facts.Rising.{In, to_in}
use Rattle.gtd_report.specs.Putting.{AreElementLines, AreLinesOf}
use Rattle.gtd_schedule.specs.Split.{HaveSameRows}
use Rattle.gtd_spans.specs.Normal.{Holds}
use Rattle.gtd_changes.proofs.SortedNumbers.{any_left, any_right}
use Rattle.gtd_changes.proofs.FormFacts.{some_text}
use Rattle.gtd_changes.specs.Changes.{AgreeOver, WasClosed, WasOpened, change_line, closed_in, opened_in}
use Rattle.gtd_changes.specs.Forms.{AreLinesIn, IsTextIn, header_in}
use Rattle.gtd_changes.specs.Summary.{AreSummaryLines}
use Rattle.gtd_changes.specs.declared.form.Form.{Form}
use Rattle.gtd_changes.specs.declared.form.Form.TheVariants.{Intervals, Rows, Summary}
use Rattle.gtd_changes.specs.facts.RowsFacts.{full_line, one_each}
use Rattle.gtd_changes.specs.declared.change.Change.{Change}
use Rattle.gtd_changes.specs.declared.change.Change.TheVariants.{Opened, Closed}
use Rattle.gtd_changes.specs.facts.ChangesFacts.{closed_or_open}

-- ---- lists that are empty

no_first : (x : List ℕ) (xs ys : List (List ℕ)) → (x ∷ xs) ++ ys ≡ [] → ⊥
no_first x xs ys e = cc

empty_parts : (a b : List (List ℕ)) → a ++ b ≡ [] → (a ≡ []) × (b ≡ [])
empty_parts [] b e = (refl, e)
empty_parts (x ∷ a) b e = absurd (no_first x a b e)

no_changes : (f : Change → List ℕ) (changes : List Change) → map f changes ≡ [] → changes ≡ []
no_changes f [] e = refl
no_changes f (c ∷ changes) e = absurd cc

none_after : (header : List ℕ) (a b : List (List ℕ)) → header ∷ a ≡ header ∷ b → a ≡ b
none_after header a b e = ap rest e
  where
    rest : List (List ℕ) → List (List ℕ)
    rest [] = []
    rest (x ∷ xs) = xs

not_empty : (line : List ℕ) (lines : List (List ℕ)) → lines ≡ line ∷ [] → lines ≡ [] → ⊥
not_empty line lines is none = cc

module _ (old new : List Restriction) (vehicle : ℕ) (horizon : Horizon) where
  -- ---- no line says anything, so nothing changed

  -- at no second of the horizon was it opened or closed
  abbrev IsSilent : ℕ → Direction → Type 0
  IsSilent element direction = (t : ℤ) → Within (whole horizon) t
      → (WasOpened old new element direction vehicle t → ⊥) × (WasClosed old new element direction vehicle t → ⊥)

  by_changes : (element : ℕ) (direction : Direction) (changes : List Change) → changes ≡ []
      → IsNormalOver (WasOpened old new element direction vehicle) horizon (opened_in changes)
      → IsNormalOver (WasClosed old new element direction vehicle) horizon (closed_in changes) → IsSilent element direction
  by_changes element direction changes empty n m = λ t within. (
    (λ o. subst (λ (c : List Change). Holds (opened_in c) t) empty (n.complete t (within.0, within.1, o))),
    (λ o. subst (λ (c : List Change). Holds (closed_in c) t) empty (m.complete t (within.0, within.1, o))),
  )

  silent : (form : Form) (element : ℕ) (direction : Direction) (lines : List (List ℕ))
      → AreLinesIn form old new vehicle horizon element direction lines → lines ≡ [] → IsSilent element direction
  silent Intervals element direction lines are none =
      by_changes element direction are.changes (no_changes (change_line element direction vehicle) are.changes
      (sym are.each ∙ none))
      are.opened are.closed
  silent Rows element direction lines are none =
      by_changes element direction are.changes
      (no_changes (full_line old new vehicle element direction) are.changes
      (sym (one_each old new vehicle element direction are.changes lines are.each) ∙ none)) are.opened are.closed
  silent Summary element direction lines (AreSummaryLines.differing d line p e) none = absurd (not_empty line lines e none)
  silent Summary element direction lines (AreSummaryLines.same never e) none =
      λ t within. ((λ o. never (t, within, inl o)), (λ o. never (t, within, inr o)))

  unchanged : (element : ℕ) (direction : Direction) → IsSilent element direction → (t : ℤ) → Within (whole horizon) t
      → IsClosed old element direction vehicle t ↔ IsClosed new element direction vehicle t
  unchanged element direction is t within =
      let never = is t within in (
        (λ was. elim (closed_or_open new element direction vehicle t)
            [ inl is ↦ is | inr free ↦ absurd (never.0 (was, free)) ]),
        (λ now. elim (closed_or_open old element direction vehicle t)
            [ inl was ↦ was | inr free ↦ absurd (never.1 (free, now)) ]),
      )

  of_direction : (form : Form) (element : ℕ) (direction : Direction) (lines : List (List ℕ))
      → AreElementLines (AreLinesIn form old new vehicle horizon element) lines → lines ≡ [] → (t : ℤ) → Within (whole horizon) t
      → IsClosed old element direction vehicle t ↔ IsClosed new element direction vehicle t
  of_direction form element Positive lines are none t within =
      unchanged element Positive (silent form element Positive are.positive are.are_positive
      (empty_parts are.positive are.negative (sym are.both ∙ none)).0) t within
  of_direction form element Negative lines are none t within =
      unchanged element Negative (silent form element Negative are.negative are.are_negative
      (empty_parts are.positive are.negative (sym are.both ∙ none)).1) t within

  of_element : (form : Form) (elements : List ℕ) (lines : List (List ℕ))
      → AreLinesOf (AreLinesIn form old new vehicle horizon) elements lines
      → lines ≡ [] → (element : ℕ) → In element elements → (direction : Direction) (t : ℤ) → Within (whole horizon) t
      → IsClosed old element direction vehicle t ↔ IsClosed new element direction vehicle t
  of_element form [] lines are none element i direction t within = absurd i
  of_element form (e ∷ elements) lines are none element (inl is) direction t within =
      subst (λ (n : ℕ). IsClosed old n direction vehicle t ↔ IsClosed new n direction vehicle t) is
      (of_direction form e direction are.0 are.2 (empty_parts are.0 are.1 (sym are.4 ∙ none)).0 t within)
  of_element form (e ∷ elements) lines are none element (inr i) direction t within =
      of_element form elements are.1 are.3 (empty_parts are.0 are.1 (sym are.4 ∙ none)).1 element i direction t within

  named_by : (found : List Restriction) (element : ℕ) (direction : Direction) (t : ℤ)
      → IsClosed found element direction vehicle t → Any (λ (r : Restriction). r.element ≡ element) found
  named_by found element direction t c = (c.0, c.1, c.2, c.3, c.4.names)

  pub header_agrees : (form : Form) (lines : List (List ℕ)) → IsTextIn form old new vehicle horizon lines
      → lines ≡ header_in form ∷ [] → AgreeOver old new vehicle horizon
  header_agrees form lines is only = λ element direction t within.
      let none = none_after (header_in form) is.rest [] (sym is.whole ∙ only) in
      let by : Any (λ (r : Restriction). r.element ≡ element) (old ++ new)
      → IsClosed old element direction vehicle t ↔ IsClosed new element direction vehicle t =
      λ a. let c = (is.named.named element).1 a in
      of_element form is.elements is.rest is.each none element (to_in element is.elements c.0 c.1 c.2) direction t within in (
        (λ was. (by (any_left (λ (r : Restriction). r.element ≡ element) old new (named_by old element direction t was))).0 was),
        (λ now. (by (any_right (λ (r : Restriction). r.element ≡ element) old new
            (named_by new element direction t now))).1 now),
      )

  -- ---- nothing changed, so no line says anything

  module _ (agree : AgreeOver old new vehicle horizon) where
    empty_list : (set : ℤ → Type 0) (xs : List Interval) → IsNormalOver set horizon xs
        → ((t : ℤ) → Within (whole horizon) t → set t → ⊥) → xs ≡ []
    empty_list set [] n never = refl
    empty_list set (x ∷ xs) n never =
        let h = n.inside x.from (inl (omega (arith, ints), n.order.0)) in absurd (never x.from (h.0, h.1) h.2)

    no_lists : (changes : List Change) → opened_in changes ≡ [] → closed_in changes ≡ [] → changes ≡ []
    no_lists [] o c = refl
    no_lists (Opened x ∷ changes) o c = absurd cc
    no_lists (Closed x ∷ changes) o c = absurd cc

    never_opened : (element : ℕ) (direction : Direction) (t : ℤ) → Within (whole horizon) t
        → WasOpened old new element direction vehicle t → ⊥
    never_opened element direction t within h = h.1 ((agree element direction t within).0 h.0)

    never_closed : (element : ℕ) (direction : Direction) (t : ℤ) → Within (whole horizon) t
        → WasClosed old new element direction vehicle t → ⊥
    never_closed element direction t within h = h.0 ((agree element direction t within).1 h.1)

    none_changed : (element : ℕ) (direction : Direction) (changes : List Change)
        → IsNormalOver (WasOpened old new element direction vehicle) horizon (opened_in changes)
        → IsNormalOver (WasClosed old new element direction vehicle) horizon (closed_in changes) → changes ≡ []
    none_changed element direction changes n m =
        no_lists changes
        (empty_list (WasOpened old new element direction vehicle) (opened_in changes) n (never_opened element direction))
        (empty_list (WasClosed old new element direction vehicle) (closed_in changes) m (never_closed element direction))

    no_lines : (form : Form) (element : ℕ) (direction : Direction) (lines : List (List ℕ))
        → AreLinesIn form old new vehicle horizon element direction lines → lines ≡ []
    no_lines Intervals element direction lines are =
        are.each ∙ ap (map (change_line element direction vehicle))
        (none_changed element direction are.changes are.opened are.closed)
    no_lines Rows element direction lines are =
        one_each old new vehicle element direction are.changes lines are.each
        ∙ ap (map (full_line old new vehicle element direction))
        (none_changed element direction are.changes are.opened are.closed)
    no_lines Summary element direction lines (AreSummaryLines.differing d line p e) =
        absurd (elim d.2 [
          | inl w ↦ never_opened element direction d.0 d.1 w
          | inr w ↦ never_closed element direction d.0 d.1 w
        ])
    no_lines Summary element direction lines (AreSummaryLines.same never e) = e

    none_of : (form : Form) (elements : List ℕ) (lines : List (List ℕ))
        → AreLinesOf (AreLinesIn form old new vehicle horizon) elements lines → lines ≡ []
    none_of form [] lines are = are
    none_of form (e ∷ elements) lines are =
        let p = no_lines form e Positive are.2.positive are.2.are_positive in
        let n = no_lines form e Negative are.2.negative are.2.are_negative in
        let more = none_of form elements are.1 are.3 in
        let first : are.0 ≡ [] = are.2.both ∙ ap₂ (λ (a b : List (List ℕ)). a ++ b) p n in
        are.4 ∙ ap (λ (l : List (List ℕ)). l ++ are.1) first ∙ more

  pub agree_header : (form : Form) (lines : List (List ℕ)) → IsTextIn form old new vehicle horizon lines
      → AgreeOver old new vehicle horizon → lines ≡ header_in form ∷ []
  agree_header form lines is agree =
      is.whole ∙ ap (λ (l : List (List ℕ)). header_in form ∷ l) (none_of agree form is.elements is.rest is.each)

  -- ---- the same rows close the same seconds

  any_same : (P : Restriction → Type 0) (one two : List Restriction) → HaveSameRows one two → Any P one → Any P two
  any_same P one two same a = let c = (same a.1).0 (a.0, a.2, a.3) in (c.0, a.1, c.1, c.2, a.4)

  pub same_rows : (form : Form) → HaveSameRows old new → IsTextIn form old new vehicle horizon (header_in form ∷ [])
  same_rows form same =
      let some = some_text old new vehicle horizon form in
      let only = agree_header form some.0 some.1 (λ element direction t within. (
        (λ c. any_same (Closes element direction vehicle t) old new same c),
        (λ c. any_same (Closes element direction vehicle t) new old (λ r. ((same r).1, (same r).0)) c),
      )) in
      subst (IsTextIn form old new vehicle horizon) only some.1
