-- The days that are jumped over have no start.
use Rattle.std.proofs.Common.{◌≡◌, ℕ, zero, suc, ◌+◌, ◌<◌, Bool, true, false, cond, is_some, ◌||◌, Option, Some, None, [], refl}
use Rattle.std.proofs.Common.{arith, ℤ, pos, ◌+ℤ◌}
use Rattle.std.proofs.lemmas.Bool.{and_parts, and_from, both_ways, false_from_ne_true}
use Rattle.gtd_calendar.specs.facts.Signed.{signed_arith}
use Rattle.gtd_core.specs.declared.start.StartParts.{StartParts}
use Rattle.gtd_calendar.specs.ComputedFields.{day_fields}
use Rattle.gtd_calendar.specs.ComputedDates.{year_of, month_of}
use Rattle.gtd_recur.specs.Begins.{begins_on, month_and_year_fit, agrees, agrees_or_least, year_agrees_with}
use Rattle.gtd_recur.specs.Work.{days_from, starts_on, starts_of}

month_agrees : (given : Option ℕ) (finer : Bool) (v : ℕ) → agrees_or_least given finer 1 v ≡ true → agrees given v ≡ true
month_agrees None finer v h = refl
month_agrees (Some x) finer v h = h

year_of_date_agrees : (week : Bool) (given : Option ℕ) (week_year year : ℤ) → year_agrees_with given (cond week week_year year)
    ≡ true → (week || year_agrees_with given year) ≡ true
year_of_date_agrees true given week_year year h = refl
year_of_date_agrees false given week_year year h = h

-- a day on which a start begins has its month and its year
pub begins_on-fits : (p : StartParts) (n : ℤ) → begins_on p (day_fields n) ≡ true → month_and_year_fit p n ≡ true
begins_on-fits p n on =
    let year = and_parts _ _ on in
    let month = and_parts _ _ year.1 in
    and_from _ _ (month_agrees p.month _ (month_of n) month.0) (year_of_date_agrees (is_some p.week) p.year _ (year_of n) year.0)

-- a day on which the month or the year does not fit has no start
pub no_start : (p : StartParts) (n : ℤ) → month_and_year_fit p n ≡ false → starts_on p n ≡ []
unfolding starts_on
no_start p n h =
    rw (false_from_ne_true (begins_on p (day_fields n)) (λ on. both_ways _ h (begins_on-fits p n on)))

-- nor have the days that are jumped over
pub starts_of-skip : (p : StartParts) (n : ℤ) (j k : ℕ) → ((i : ℕ) → i < j → month_and_year_fit p (n +ℤ pos i) ≡ false)
    → starts_of p (days_from n (j + k)) ≡ starts_of p (days_from (n +ℤ pos j) k)
unfolding starts_of days_from
starts_of-skip p n zero k h =
    let same : n +ℤ pos 0 ≡ n = omega (arith, signed_arith) in
    let none : 0 + k ≡ k = omega arith in
    rw (same, none)
starts_of-skip p n (suc j) k h =
    let first : month_and_year_fit p n ≡ false = let same : n +ℤ pos 0 ≡ n = omega (arith, signed_arith) in
    rw same at (h 0 (omega arith)) in
    let more : suc j + k ≡ suc (j + k) = omega arith in
    let far : n +ℤ pos (suc j) ≡ n +ℤ pos 1 +ℤ pos j = omega (arith, signed_arith) in
    let rest = starts_of-skip p (n +ℤ pos 1) j k (λ i lt. let next : n +ℤ pos 1 +ℤ pos i ≡ n +ℤ pos (i + 1) =
    omega (arith, signed_arith) in rw next (h (i + 1) (omega arith))) in
    rw (more, no_start p n first, far) rest
