use Rattle.std.proofs.Common.{rules, ◌≡◌, ◌∙◌, sym, pos, FitsSigned, w64, to_z-of_z}
use Rattle.gtd_calendar.specs.Calendar.{IsDateOf}
use Rattle.gtd_hours.proofs.DateFacts.{date-in, year-in}
use Rattle.gtd_hours.proofs.ends.date_of.Goals as goal

pub short-requires : goal.short-requires
short-requires c =
    let fits : FitsSigned w64 c.fields-date.result.year = search rules in
    let date : IsDateOf c.args.day c.fields-date.result.year c.fields-date.result.month c.fields-date.result.day =
    rw (to_z-of_z c.ranges.day) at c.fields-date.ensures.date in
    rw (to_z-of_z fits) (year-in c.args.day c.fields-date.result.year _ _ c.requires date)

pub invariant_of-result : goal.invariant_of-result
invariant_of-result c =
    let fits : FitsSigned w64 c.fields-date.result.year = search rules in
    let date : IsDateOf c.args.day c.fields-date.result.year c.fields-date.result.month c.fields-date.result.day =
    rw (to_z-of_z c.ranges.day) at c.fields-date.ensures.date in
    let same : pos c.short.result ≡ c.fields-date.result.year = c.short.ensures ∙ to_z-of_z fits in
    record { is_date = date-in c.args.day c.fields-date.result.year c.short.result _ _ c.requires date same }

pub returns : goal.returns
returns c =
    let fits : FitsSigned w64 c.fields-date.result.year = search rules in
    let date : IsDateOf c.args.day c.fields-date.result.year c.fields-date.result.month c.fields-date.result.day =
    rw (to_z-of_z c.ranges.day) at c.fields-date.ensures.date in
    let same : pos c.short.result ≡ c.fields-date.result.year = c.short.ensures ∙ to_z-of_z fits in
    rw same (sym date.1)
