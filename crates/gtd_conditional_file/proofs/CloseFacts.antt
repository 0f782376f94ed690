-- Restrictions close an element exactly if the rows do that they are of.
use Rattle.std.proofs.Common.{◌∙◌, inl, inr, subst, sym, ℕ, List, [], ◌∷◌}
use Rattle.std.specs.Prelude.{◌↔◌, ℤ, Any, Option, Some, None, option_map}
use Rattle.gtd_core.specs.Parts.{domain_tree}
use Rattle.gtd_core.specs.Trees.{Tree}
use Rattle.gtd_core.specs.declared.domain.Domain.{Domain}
use Rattle.gtd_records.specs.Closing.{Closes, HoldsAt, Restriction}
use Rattle.gtd_rows.specs.Serving.{ClosesDirection}
use Rattle.gtd_rows.specs.declared.direction.Closed.{Closed}
use Rattle.gtd_rows.specs.declared.direction.Direction.{Direction}
use Rattle.gtd_report.specs.facts.SomeElements.{any_first, any_later, any_none, any_split}
use Rattle.gtd_conditional_elements.specs.FileClosing.{RowCloses, SomeCloses}
use Rattle.gtd_conditional_elements.specs.declared.found.ElementRow.{ElementRow}
use Rattle.gtd_conditional_rows.specs.Times.{InTimes}
use Rattle.gtd_conditional_rows.specs.Timing.{domain_times}
use Rattle.gtd_conditional_rows.specs.Types.{IsVehicle}
use Rattle.gtd_conditional_file.specs.Records.{AreRestrictions, IsRestrictionOf}

holds_in : (s : ℤ) (domain : Option Domain) → HoldsAt (option_map domain_tree domain) s ↔ InTimes (domain_times domain) s
holds_in s None = ((λ h. h), (λ h. h))
holds_in s (Some domain) = ((λ h. h), (λ h. h))

module _ (element : ℕ) (direction : Direction) (t : ℕ) (s : ℤ) (vehicle : IsVehicle t) where
  restriction_closes : (row : ElementRow) (r : Restriction) → IsRestrictionOf row r
      → Closes element direction t s r ↔ RowCloses element direction t s row
  restriction_closes row r is =
      let same = is.vehicles.same t vehicle in
      let in' = holds_in s row.row.domain in (
        (λ h. record {
          names = sym is.element ∙ h.names;
          closes = subst (λ (c : Closed). ClosesDirection c direction) is.closed h.concerns.0;
          has = same.0 h.concerns.1;
          holds = in'.0 (subst (λ (tree : Option Tree). HoldsAt tree s) is.domain h.holds);
        }),
        (λ h. record {
          names = is.element ∙ h.names;
          concerns = (subst (λ (c : Closed). ClosesDirection c direction) (sym is.closed) h.closes, same.1 h.has);
          holds = subst (λ (tree : Option Tree). HoldsAt tree s) (sym is.domain) (in'.1 h.holds);
        }),
      )

  pub some_closes : (rows : List ElementRow) (found : List Restriction) → AreRestrictions rows found
      → Any (Closes element direction t s) found ↔ SomeCloses element direction t s rows
  some_closes [] found are =
      rw are ((λ h. absurd (any_none (Closes element direction t s) h)), (λ h. absurd h))
  some_closes (row ∷ rows) found are =
      let P = Closes element direction t s in
      let one = restriction_closes row are.0 are.2 in
      let more = some_closes rows are.1 are.3 in
      rw (are.4) (
        (λ h. elim (any_split P are.0 are.1 h) [ inl here ↦ inl (one.0 here) | inr later ↦ inr (more.0 later) ]),
        (λ h. elim h [
          | inl here ↦ any_first P are.0 are.1 (one.1 here)
          | inr later ↦ any_later P are.0 are.1 (more.1 later)
        ]),
      )
