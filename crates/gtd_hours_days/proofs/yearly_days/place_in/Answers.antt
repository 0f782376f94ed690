-- A place comes again after four hundred years.
use Rattle.std.proofs.Common.{rules, arith, FitsSigned, w64, to_z-of_z}
use Rattle.gtd_hours_days.proofs.EasterFacts.{place_earlier, place_from}
use Rattle.gtd_hours_days.proofs.yearly_days.place_in.Goals as goal

pub returns-then-year-lt2300 : goal.returns-then-year-lt2300
returns-then-year-lt2300 c =
    let there : FitsSigned w64 c.place_within.result = search rules in
    let here : FitsSigned w64 c.four_hundred_years_before.result = search rules in
    rw (to_z-of_z here) (place_earlier c.args.place c.args.year c.place_within.result c.four_hundred_years_before.result
    (rw (to_z-of_z there) at c.four_hundred_years_before.ensures) c.place_within.ensures.day)

pub returns-else-year-lt2300 : goal.returns-else-year-lt2300
returns-else-year-lt2300 c =
    let there : FitsSigned w64 c.place_within-else-year-lt2300.result = search rules in
    let here : FitsSigned w64 c.four_hundred_years_after.result = search rules in
    rw (to_z-of_z here) (place_from c.args.place c.args.year c.place_within-else-year-lt2300.result
    c.four_hundred_years_after.result (rw (to_z-of_z there) at c.four_hundred_years_after.ensures)
    (let low = c.if-year-lt2300.false in omega (arith, low)) c.place_within-else-year-lt2300.ensures.day)
