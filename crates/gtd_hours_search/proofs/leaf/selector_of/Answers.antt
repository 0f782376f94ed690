-- A basic domain of the form of a selector is found as one, by the first of its fields: year, week, month or weekday.
use Rattle.std.proofs.Common.{sym}
use Rattle.gtd_hours_search.proofs.FormLemmas.{by_month, by_week, by_weekday, by_year}
use Rattle.gtd_hours_search.proofs.leaf.selector_of.Goals as goal

pub returns-in-Some : goal.returns-in-Some
returns-in-Some c =
    rw (sym c.parts-parts.ensures.value, sym c.parts-lasts.ensures.value)
    (λ h. by_year c.parts-parts.result c.parts-lasts.result c.in-Some.year c.in_year.result c.in-Some.is c.in_year.ensures
    h.0 h.1)

pub returns-in-Some-week : goal.returns-in-Some-week
returns-in-Some-week c =
    rw (sym c.parts-parts.ensures.value, sym c.parts-lasts.ensures.value)
    (λ h. by_week c.parts-parts.result c.parts-lasts.result c.in-Some-week.week c.from_week.result c.in_default.is
    c.in-Some-week.is (rw c.from.ensures at c.from_week.ensures) h.0 h.1)

pub returns-in-Some-month : goal.returns-in-Some-month
returns-in-Some-month c =
    rw (sym c.parts-parts.ensures.value, sym c.parts-lasts.ensures.value)
    (λ h. by_month c.parts-parts.result c.parts-lasts.result c.in-Some-month.month c.in_ok-parts.field-0 c.from_month.result
    c.in_default.is c.in_default-week.is c.in-Some-month.is c.in_ok-parts.was c.from_month.ensures.months
    c.from_month.ensures.dates h.0 h.1)

pub returns : goal.returns
returns c =
    rw (sym c.parts-parts.ensures.value, sym c.parts-lasts.ensures.value)
    (λ h. by_weekday c.parts-parts.result c.parts-lasts.result c.on_weekday.result c.in_default.is c.in_default-week.is
    c.in_default-month.is c.on_weekday.ensures.nth c.on_weekday.ensures.nth_back c.on_weekday.ensures.weekdays h.0 h.1)
