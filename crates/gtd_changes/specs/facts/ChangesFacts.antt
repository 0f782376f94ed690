-- Two lists of restrictions have one text of changes.
use Rattle.std.proofs.Common.{◌≡◌, ◌∙◌, sym, ap, refl, subst, inl, inr, map, ℕ, List, [], ◌∷◌, ◌++◌}
use Rattle.std.specs.Prelude.{ℤ, ◌↔◌}
use Rattle.gtd_core.specs.Seconds.{Interval}
use Rattle.gtd_core.specs.Whole.{whole}
use Rattle.gtd_core.specs.declared.horizon.Horizon.{Horizon}
use Rattle.gtd_core.specs.facts.Deciding.{Decided, both}
use Rattle.gtd_eval.specs.Membership.{IsNormalOver}
use Rattle.gtd_core.specs.declared.domain.Op.TheVariants.{Minus}
use Rattle.gtd_spans.specs.Normal.{combine}
use Rattle.gtd_spans.specs.facts.NormalFor.{combine-normal-for, normal-for, normal-of, one-normal-list}
use Rattle.gtd_spans.specs.facts.SomeList.{some-normal-list}
use Rattle.gtd_records.specs.Closing.{Closes, IsClosed, IsOpen, Restriction}
use Rattle.gtd_rows.specs.declared.direction.Direction.{Direction}
use Rattle.gtd_records.specs.facts.OpenDecisions.{closes, open_or_not}
use Rattle.gtd_report.specs.facts.ElementFacts.{one_by_element}
use Rattle.gtd_report.specs.facts.SomeElements.{any_first, any_later, any_none, any_split, some_by_element}
use Rattle.gtd_report.specs.Putting.{IsOne}
use Rattle.gtd_changes.specs.Rows.{AreRowsLines}
use Rattle.gtd_changes.specs.facts.RowsFacts.{are_full, full_line, one_each}
use Rattle.gtd_changes.specs.Changes.{AreLines, BeginInTurn, IsChanges, WasClosed, WasOpened, change_line, closed_in}
use Rattle.gtd_changes.specs.Changes.{header_line, opened_in}
use Rattle.gtd_changes.specs.Merging.{by_from}
use Rattle.gtd_changes.specs.declared.change.Change.{Change}
use Rattle.gtd_changes.specs.facts.MergeFacts.{AreApart, of_both, one_order, turn_both}

-- some restriction closes an element at a second, or none does
pub closed_or_open : (found : List Restriction) (element : ℕ) (direction : Direction) (vehicle : ℕ) (t : ℤ)
    → Decided (IsClosed found element direction vehicle t)
closed_or_open [] element direction vehicle t = inr (any_none (Closes element direction vehicle t))
closed_or_open (r ∷ rs) element direction vehicle t =
    elim (closes (r ∷ rs) element direction vehicle t r) [
      | inl h ↦ inl (any_first (Closes element direction vehicle t) r rs h)
      | inr first ↦ elim (closed_or_open rs element direction vehicle t) [
        | inl h ↦ inl (any_later (Closes element direction vehicle t) r rs h)
        | inr later ↦ inr (λ a. elim (any_split (Closes element direction vehicle t) r rs a)
            [ inl p ↦ first p | inr q ↦ later q ])
      ]
    ]

-- a restriction closes it that is not none
pub not_open : (found : List Restriction) (element : ℕ) (direction : Direction) (vehicle : ℕ) (t : ℤ)
    → (IsOpen found element direction vehicle t → ⊥) → IsClosed found element direction vehicle t
not_open found element direction vehicle t never =
    elim (closed_or_open found element direction vehicle t) [ inl h ↦ h | inr none ↦ absurd (never none) ]

module _ (old new : List Restriction) (vehicle : ℕ) (horizon : Horizon) where
  module _ (element : ℕ) (direction : Direction) where
    -- no second was both opened and closed
    lists_apart : (opened closed : List Interval)
        → IsNormalOver (WasOpened old new element direction vehicle) horizon opened
        → IsNormalOver (WasClosed old new element direction vehicle) horizon closed → AreApart opened closed
    lists_apart opened closed n m = λ t h k. (m.inside t k).2.0 (n.inside t h).2.0

    -- the changes of both lists are those that are meant
    pub opened_of : (opened closed : List Interval) → IsNormalOver (WasOpened old new element direction vehicle) horizon opened
        → IsNormalOver (WasOpened old new element direction vehicle) horizon (opened_in (by_from opened closed))
    opened_of opened closed n =
        subst (λ (xs : List Interval). IsNormalOver (WasOpened old new element direction vehicle) horizon xs)
        (sym (of_both opened closed).0) n

    pub closed_of : (opened closed : List Interval) → IsNormalOver (WasClosed old new element direction vehicle) horizon closed
        → IsNormalOver (WasClosed old new element direction vehicle) horizon (closed_in (by_from opened closed))
    closed_of opened closed m =
        subst (λ (xs : List Interval). IsNormalOver (WasClosed old new element direction vehicle) horizon xs)
        (sym (of_both opened closed).1) m

    pub order_of : (opened closed : List Interval)
        → IsNormalOver (WasOpened old new element direction vehicle) horizon opened
        → IsNormalOver (WasClosed old new element direction vehicle) horizon closed → BeginInTurn (by_from opened closed)
    order_of opened closed n m =
        turn_both opened closed
        (normal-of (WasOpened old new element direction vehicle) (whole horizon).from (whole horizon).until opened n)
        (normal-of (WasClosed old new element direction vehicle) (whole horizon).from (whole horizon).until closed m)
        (lists_apart opened closed n m)

    -- the lines of both lists
    pub lines_of : (opened closed : List Interval)
        → IsNormalOver (WasOpened old new element direction vehicle) horizon opened
        → IsNormalOver (WasClosed old new element direction vehicle) horizon closed
        → AreLines old new vehicle horizon element direction (map (change_line element direction vehicle)
        (by_from opened closed))
    lines_of opened closed n m = record {
      changes = by_from opened closed;
      opened = opened_of opened closed n;
      closed = closed_of opened closed m;
      order = order_of opened closed n m;
      each = refl;
    }

    -- the same with rows
    pub rows_of : (opened closed : List Interval)
        → IsNormalOver (WasOpened old new element direction vehicle) horizon opened
        → IsNormalOver (WasClosed old new element direction vehicle) horizon closed
        → AreRowsLines old new vehicle horizon element direction
        (map (full_line old new vehicle element direction) (by_from opened closed))
    rows_of opened closed n m = record {
      changes = by_from opened closed;
      opened = opened_of opened closed n;
      closed = closed_of opened closed m;
      order = order_of opened closed n m;
      each = are_full old new vehicle element direction (by_from opened closed);
    }

    pub opened_list : (xs : List Interval) × IsNormalOver (WasOpened old new element direction vehicle) horizon xs
    opened_list =
        some-normal-list (WasOpened old new element direction vehicle)
        (λ t. both _ _ (closed_or_open old element direction vehicle t) (open_or_not new element direction vehicle t))
        (whole horizon).from (whole horizon).until

    pub closed_list : (xs : List Interval) × IsNormalOver (WasClosed old new element direction vehicle) horizon xs
    closed_list =
        some-normal-list (WasClosed old new element direction vehicle)
        (λ t. both _ _ (open_or_not old element direction vehicle t) (closed_or_open new element direction vehicle t))
        (whole horizon).from (whole horizon).until

    pub some_lines : (lines : List (List ℕ)) × AreLines old new vehicle horizon element direction lines
    some_lines = (
      map (change_line element direction vehicle) (by_from opened_list.0 closed_list.0),
      lines_of opened_list.0 closed_list.0 opened_list.1 closed_list.1,
    )

    pub some_rows_lines : (lines : List (List ℕ)) × AreRowsLines old new vehicle horizon element direction lines
    some_rows_lines = (
      map (full_line old new vehicle element direction) (by_from opened_list.0 closed_list.0),
      rows_of opened_list.0 closed_list.0 opened_list.1 closed_list.1,
    )

  -- there is one list of such changes
  one_list : (element : ℕ) (direction : Direction) (a b : List Change)
      → IsNormalOver (WasOpened old new element direction vehicle) horizon (opened_in a)
      → IsNormalOver (WasOpened old new element direction vehicle) horizon (opened_in b)
      → IsNormalOver (WasClosed old new element direction vehicle) horizon (closed_in a)
      → IsNormalOver (WasClosed old new element direction vehicle) horizon (closed_in b)
      → BeginInTurn a → BeginInTurn b → a ≡ b
  one_list element direction a b oa ob ca cb ta tb =
      one_order a b ta tb
      (one-normal-list (WasOpened old new element direction vehicle) (whole horizon).from (whole horizon).until (opened_in a)
      (opened_in b) oa ob)
      (one-normal-list (WasClosed old new element direction vehicle) (whole horizon).from (whole horizon).until (closed_in a)
      (closed_in b) ca cb)

  pub one_rows_lines : (element : ℕ) (direction : Direction) → IsOne (AreRowsLines old new vehicle horizon element direction)
  one_rows_lines element direction a b p q =
      one_each old new vehicle element direction p.changes a p.each
      ∙ ap (map (full_line old new vehicle element direction))
      (one_list element direction p.changes q.changes p.opened q.opened p.closed q.closed p.order q.order)
      ∙ sym (one_each old new vehicle element direction q.changes b q.each)

  -- an element has one list of lines in a direction
  pub one_lines : (element : ℕ) (direction : Direction) → IsOne (AreLines old new vehicle horizon element direction)
  one_lines element direction a b p q =
      p.each
      ∙ ap (map (change_line element direction vehicle))
      (one_list element direction p.changes q.changes p.opened q.opened p.closed q.closed p.order q.order)
      ∙ sym q.each

  -- two lists of restrictions have one text
  pub one_changes : IsOne (IsChanges old new vehicle horizon)
  one_changes = one_by_element (AreLines old new vehicle horizon) one_lines (old ++ new) header_line

  -- and they have one
  pub some_changes : (lines : List (List ℕ)) × IsChanges old new vehicle horizon lines
  some_changes = some_by_element (AreLines old new vehicle horizon) some_lines (old ++ new) header_line

-- ---- what is opened, of the seconds at which an element is open

same_normal : (P Q : ℤ → Type 0) (horizon : Horizon) (xs : List Interval) → ((t : ℤ) → P t ↔ Q t) → IsNormalOver P horizon xs
    → IsNormalOver Q horizon xs
same_normal P Q horizon xs same n =
    normal-for Q (whole horizon).from (whole horizon).until xs (normal-of P (whole horizon).from (whole horizon).until xs n)
    (λ t. (
      (λ h. let i = n.inside t h in (i.0, i.1, (same t).0 i.2)),
      (λ i. n.complete t (i.0, i.1, (same t).1 i.2)),
    ))

module _ (old new : List Restriction) (element : ℕ) (direction : Direction) (vehicle : ℕ) (horizon : Horizon)
    (is was : List Interval) (now : IsNormalOver (IsOpen new element direction vehicle) horizon is)
    (before : IsNormalOver (IsOpen old element direction vehicle) horizon was) where
  -- it is what is open now and was not
  pub opened_of_open : IsNormalOver (WasOpened old new element direction vehicle) horizon (combine Minus is was)
  opened_of_open =
      same_normal (λ t. IsOpen new element direction vehicle t × (IsOpen old element direction vehicle t → ⊥))
      (WasOpened old new element direction vehicle) horizon (combine Minus is was)
      (λ t. ((λ h. (not_open old element direction vehicle t h.1, h.0)), (λ h. (h.1, (λ o. o h.0)))))
      (combine-normal-for Minus (IsOpen new element direction vehicle) (IsOpen old element direction vehicle)
      (whole horizon).from (whole horizon).until is was now before)

  -- the other way round
  pub closed_of_open : IsNormalOver (WasClosed old new element direction vehicle) horizon (combine Minus was is)
  closed_of_open =
      same_normal (λ t. IsOpen old element direction vehicle t × (IsOpen new element direction vehicle t → ⊥))
      (WasClosed old new element direction vehicle) horizon (combine Minus was is)
      (λ t. ((λ h. (h.0, not_open new element direction vehicle t h.1)), (λ h. (h.0, (λ o. o h.1)))))
      (combine-normal-for Minus (IsOpen old element direction vehicle) (IsOpen new element direction vehicle)
      (whole horizon).from (whole horizon).until was is before now)
