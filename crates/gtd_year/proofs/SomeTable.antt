-- Each second is one in which the element is open, or is not, and so the seconds of a day can be counted.
use Rattle.std.proofs.Common.{refl, ◌+◌, ℕ, zero, suc, inl, inr, List, [], ◌∷◌}
use Rattle.std.specs.Prelude.{ℤ, pos, ◌+ℤ◌, ◌*ℤ◌}
use Rattle.gtd_records.specs.facts.OpenDecisions.{open_or_not}
use Rattle.gtd_records.specs.Closing.{IsOpen, Restriction}
use Rattle.gtd_rows.specs.declared.direction.Direction.{Direction}
use Rattle.gtd_spans.specs.Counting.{IsCount}
use Rattle.gtd_year.specs.YearTable.{AreDayLines, day_line}

module _ (found : List Restriction) (element : ℕ) (direction : Direction) (vehicle : ℕ) where
  counted : (t : ℤ) (n : ℕ) → (count : ℕ) × IsCount (IsOpen found element direction vehicle) t n count
  unfolding IsCount
  counted t zero = (0, refl)
  counted t (suc n) =
      let rest = counted (t +ℤ pos 1) n in
      elim (open_or_not found element direction vehicle t) [
        | inl h ↦ (rest.0 + 1, (rest.0, rest.1, inl (h, refl)))
        | inr h ↦ (rest.0, (rest.0, rest.1, inr (h, refl)))
      ]

  -- the days have lines
  pub some_lines : (day : ℤ) (n : ℕ) → (lines : List (List ℕ)) × AreDayLines (IsOpen found element direction vehicle) day n lines
  unfolding AreDayLines
  some_lines day zero = ([], refl)
  some_lines day (suc n) =
      let rest = some_lines (day +ℤ pos 1) n in
      let count = counted (day *ℤ pos 86400) 86400 in
      (day_line day count.0 ∷ rest.0, (count.0, rest.0, count.1, rest.1, refl))
