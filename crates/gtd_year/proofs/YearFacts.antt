-- The table of a year, from the normal list of its open seconds.
use Rattle.std.proofs.Common.{◌≡◌, ◌∙◌, ◌-ℤ◌, subst, ℕ, List, FitsSigned, to_z, of_z, w64, to_z-of_z, unsigned_abs}
use Rattle.std.proofs.Common.{arith, ◌↔◌}
use Rattle.std.specs.Prelude.{ℤ, pos, ◌+ℤ◌}
use Rattle.std.proofs.lemmas.Int.{ints}
use Rattle.gtd_calendar.specs.Calendar.{first_day, year_length}
use Rattle.gtd_calendar.specs.facts.YearDays.{days_between, year_length-few}
use Rattle.gtd_core.specs.Seconds.{Interval}
use Rattle.gtd_core.specs.Whole.{from_day, to_day}
use Rattle.gtd_core.specs.declared.horizon.Horizon.{Horizon}
use Rattle.gtd_eval.specs.Membership.{IsNormalOver}
use Rattle.gtd_spans.specs.Normal.{Holds}
use Rattle.gtd_year.specs.Counts.{RepeatsWeekly}
use Rattle.gtd_year.specs.YearTable.{AreDayLines}
use Rattle.gtd_year.proofs.DayFacts.{same_days}

-- the lines of the normal list of a year's open seconds are those of the set
pub year_table : (set : ℤ → Type 0) (horizon : Horizon) (list seconds : List Interval) (first : ℤ) (days year : ℕ)
    (lines : List (List ℕ))
    → IsNormalOver set horizon list → seconds ≡ list → from_day horizon ≡ first_day (pos year)
    → to_day horizon ≡ first_day (pos year) +ℤ pos (year_length (pos year)) → first ≡ first_day (pos year)
    → days ≡ year_length (pos year) → AreDayLines (Holds seconds) first days lines
    → AreDayLines set (first_day (pos year)) (year_length (pos year)) lines
year_table set horizon list seconds first days year lines normal is from to begin count are =
    let at : AreDayLines (Holds list) (first_day (pos year)) (year_length (pos year)) lines =
    subst (λ (n : ℕ). AreDayLines (Holds list) (first_day (pos year)) n lines) count
    (subst (λ (t : ℤ). AreDayLines (Holds list) t days lines) begin
    (subst (λ (xs : List Interval). AreDayLines (Holds xs) first days lines) is are)) in
    same_days (Holds list) set (first_day (pos year)) (year_length (pos year)) lines
    (λ t low high. (
      (λ h. (normal.inside t h).2),
      (λ s. normal.complete t (rw from low, rw to high, s)),
    )) at

-- the days that were put, counted as the program counts them, are those of the year
pub days_put : (set : ℤ → Type 0) (horizon : Horizon) (list seconds : List Interval) (first next : ℤ) (year : ℕ)
    (lines : List (List ℕ)) → FitsSigned w64 first → FitsSigned w64 next
    → IsNormalOver set horizon list → seconds ≡ list → first ≡ from_day horizon → next ≡ to_day horizon
    → from_day horizon ≡ first_day (pos year) → to_day horizon ≡ first_day (pos year) +ℤ pos (year_length (pos year))
    → AreDayLines (Holds seconds) (to_z w64 (of_z w64 first))
    (unsigned_abs (to_z w64 (of_z w64 (to_z w64 (of_z w64 next) -ℤ to_z w64 (of_z w64 first))))) lines
    → AreDayLines set (first_day (pos year)) (year_length (pos year)) lines
days_put set horizon list seconds first next year lines from_fits to_fits normal is starts ends begins stops are =
    let from : to_z w64 (of_z w64 first) ≡ first_day (pos year) = to_z-of_z from_fits ∙ starts ∙ begins in
    let to = to_z-of_z to_fits ∙ ends ∙ stops in
    let count = days_between (first_day (pos year)) _ (year_length (pos year)) (year_length-few (pos year)) to in
    year_table set horizon list seconds _ _ year lines normal is begins stops from (rw from count) are

-- where the set repeats after a week, the days do that were put
pub weekly_put : (set : ℤ → Type 0) (horizon : Horizon) (list seconds : List Interval) (first next : ℤ) (year : ℕ)
    → FitsSigned w64 first → FitsSigned w64 next
    → IsNormalOver set horizon list → seconds ≡ list → first ≡ from_day horizon → next ≡ to_day horizon
    → from_day horizon ≡ first_day (pos year) → to_day horizon ≡ first_day (pos year) +ℤ pos (year_length (pos year))
    → ((t : ℤ) → set t ↔ set (t +ℤ pos 604800))
    → RepeatsWeekly (Holds seconds) (to_z w64 (of_z w64 first))
    (unsigned_abs (to_z w64 (of_z w64 (to_z w64 (of_z w64 next) -ℤ to_z w64 (of_z w64 first)))))
weekly_put set horizon list seconds first next year from_fits to_fits normal is starts ends begins stops same =
    let from : to_z w64 (of_z w64 first) ≡ first_day (pos year) = to_z-of_z from_fits ∙ starts ∙ begins in
    let to = to_z-of_z to_fits ∙ ends ∙ stops in
    let count = days_between (first_day (pos year)) _ (year_length (pos year)) (year_length-few (pos year)) to in
    rw (from, count, is) (λ t low high. (
      (λ h.
          let i = normal.inside t h in
          normal.complete (t +ℤ pos 604800) (omega (arith, ints, i.0), rw stops high, (same t).0 i.2)),
      (λ h.
          let i = normal.inside (t +ℤ pos 604800) h in
          normal.complete t (rw begins low, omega (arith, ints, i.1), (same t).1 i.2)),
    ))
