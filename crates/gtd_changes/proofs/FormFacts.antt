-- In each form an element has exactly one list of lines in a direction, and none if it is open at the same seconds by both
-- files.
use Rattle.std.proofs.Common.{inl, inr, refl, ℕ, List, []}
use Rattle.std.specs.Prelude.{ℤ, Bool, true, false, map}
use Rattle.gtd_core.specs.Seconds.{Interval}
use Rattle.gtd_core.specs.Whole.{whole}
use Rattle.gtd_spans.specs.facts.NormalFor.{normal-for}
use Rattle.gtd_core.specs.declared.horizon.Horizon.{Horizon}
use Rattle.gtd_eval.specs.Membership.{IsNormalOver}
use Rattle.gtd_records.specs.Closing.{Restriction}
use Rattle.gtd_rows.specs.declared.direction.Direction.{Direction}
use Rattle.gtd_report.specs.Putting.{IsOne}
use Rattle.gtd_report.specs.facts.ElementFacts.{one_by_element}
use Rattle.gtd_report.specs.facts.SomeElements.{some_by_element}
use Rattle.std.specs.Prelude.{◌++◌}
use Rattle.gtd_changes.proofs.SummaryFacts.{one_summary, some_summary}
use Rattle.gtd_changes.specs.Changes.{WasClosed, WasOpened}
use Rattle.gtd_changes.specs.Forms.{AreLinesIn, IsTextIn, form_with, header_in}
use Rattle.gtd_changes.specs.Merging.{by_from}
use Rattle.gtd_changes.specs.Same.{IsAlike}
use Rattle.gtd_changes.specs.Summary.{AreSummaryLines, Differs}
use Rattle.gtd_changes.specs.declared.form.Form.{Form}
use Rattle.gtd_changes.specs.declared.form.Form.TheVariants.{Intervals, Rows, Summary}
use Rattle.gtd_changes.specs.facts.ChangesFacts.{lines_of, one_lines, one_rows_lines, rows_of, some_lines, some_rows_lines}
use Rattle.gtd_changes.specs.facts.RowsFacts.{line_with}

module _ (old new : List Restriction) (vehicle : ℕ) (horizon : Horizon) where
  module _ (element : ℕ) (direction : Direction) where
    -- the lines of both lists, with rows or without them
    pub lines_with : (with_rows : Bool) (opened closed : List Interval)
        → IsNormalOver (WasOpened old new element direction vehicle) horizon opened
        → IsNormalOver (WasClosed old new element direction vehicle) horizon closed
        → AreLinesIn (form_with with_rows) old new vehicle horizon element direction
        (map (line_with old new vehicle element direction with_rows) (by_from opened closed))
    lines_with true opened closed n m = rows_of old new vehicle horizon element direction opened closed n m
    lines_with false opened closed n m = lines_of old new vehicle horizon element direction opened closed n m

    -- ---- one that is open at the same seconds has no line

    module _ (alike : IsAlike old new element) where
      never_opened : (t : ℤ) → WasOpened old new element direction vehicle t → ⊥
      never_opened t w = (alike direction vehicle t).1 w.1 w.0

      never_closed : (t : ℤ) → WasClosed old new element direction vehicle t → ⊥
      never_closed t w = (alike direction vehicle t).0 w.0 w.1

      no_spans : (P : ℤ → Type 0) → ((t : ℤ) → P t → ⊥) → IsNormalOver P horizon []
      no_spans P never =
          normal-for P (whole horizon).from (whole horizon).until [] tt (λ t. ((λ h. absurd h), (λ i. absurd (never t i.2))))

      same_seconds : Differs old new vehicle horizon element direction → ⊥
      same_seconds d = elim d.2 [ inl w ↦ never_opened d.0 w | inr w ↦ never_closed d.0 w ]

      pub no_lines : (form : Form) → AreLinesIn form old new vehicle horizon element direction []
      no_lines Intervals =
          lines_of old new vehicle horizon element direction [] []
          (no_spans (WasOpened old new element direction vehicle) never_opened)
          (no_spans (WasClosed old new element direction vehicle) never_closed)
      no_lines Rows =
          rows_of old new vehicle horizon element direction [] []
          (no_spans (WasOpened old new element direction vehicle) never_opened)
          (no_spans (WasClosed old new element direction vehicle) never_closed)
      no_lines Summary = AreSummaryLines.same same_seconds refl

  -- ---- there is one list of lines

  pub one_in : (form : Form) (element : ℕ) (direction : Direction)
      → IsOne (AreLinesIn form old new vehicle horizon element direction)
  one_in Intervals element direction = one_lines old new vehicle horizon element direction
  one_in Rows element direction = one_rows_lines old new vehicle horizon element direction
  one_in Summary element direction = one_summary old new vehicle horizon element direction

  some_in : (form : Form) (element : ℕ) (direction : Direction)
      → (lines : List (List ℕ)) × AreLinesIn form old new vehicle horizon element direction lines
  some_in Intervals element direction = some_lines old new vehicle horizon element direction
  some_in Rows element direction = some_rows_lines old new vehicle horizon element direction
  some_in Summary element direction = some_summary old new vehicle horizon element direction

  -- two lists of restrictions have one text in each form
  pub one_text : (form : Form) → IsOne (IsTextIn form old new vehicle horizon)
  one_text form = one_by_element (AreLinesIn form old new vehicle horizon) (one_in form) (old ++ new) (header_in form)

  pub some_text : (form : Form) → (lines : List (List ℕ)) × IsTextIn form old new vehicle horizon lines
  some_text form = some_by_element (AreLinesIn form old new vehicle horizon) (some_in form) (old ++ new) (header_in form)
