-- The number of the first of a month is that of New Year and the days of the months before, and casts keep it.
use Rattle.std.proofs.Common.{rules, ◌≡◌, ◌∙◌, pos, ℤ, FitsSigned, to_z, of_z, w64, to_z-of_z, ap, arith}
use Rattle.gtd_calendar.specs.facts.Signed.{signed_arith}
use Rattle.gtd_calendar.specs.Calendar.{day_number}
use Rattle.gtd_calendar.specs.facts.YearDays.{month_begins}
use Rattle.gtd_calendar.proofs.year.first_of_month.Goals as goal

pub returns : goal.returns
returns c =
    let fits : FitsSigned w64 c.in-Some.day = search rules in
    let same : to_z w64 (of_z w64 c.in-Some.day) ≡ c.in-Some.day = to_z-of_z fits in
    let year : to_z w64 (of_z w64 c.from.result) ≡ pos c.args.year = omega (arith, signed_arith) in
    record {
      day = same ∙ c.in-Some.ensures.value ∙ ap (λ (y : ℤ). day_number y c.args.month 1) year
          ∙ month_begins (pos c.args.year) c.args.month;
    }
