-- Day numbers fit into an `i64`, so comparing the numbers is comparing the days of the calendar.
use Rattle.std.proofs.Common.{◌≡◌, rules, to_z, of_z, w64, to_z-of_z, FitsSigned}
use Rattle.gtd_hours.proofs.dated.is_dated_range.Goals as goal

pub returns : goal.returns
returns c =
    let fits : FitsSigned w64 c.day_number.result = search rules in
    let fits_last : FitsSigned w64 c.day_number-2.result = search rules in
    let same : to_z w64 (of_z w64 c.day_number.result) ≡ c.day_number.result = to_z-of_z fits in
    let same_last : to_z w64 (of_z w64 c.day_number-2.result) ≡ c.day_number-2.result = to_z-of_z fits_last in
    rw (c.day_number.ensures.value, c.day_number-2.ensures.value) at (rw (same, same_last) at c.is_near.ensures)
