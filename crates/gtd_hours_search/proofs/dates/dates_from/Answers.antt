use Rattle.std.proofs.Common.{◌≡◌, ◌⊎◌, ◌+◌, arith, ◌∙◌, sym}
use Rattle.gtd_hours_search.proofs.FormLemmas.{few-days, last-found}
use Rattle.gtd_hours_search.proofs.dates.dates_from.Goals as goal
use Rattle.gtd_hours_search.proofs.dates.dates_from.Goals.{then-month-eq0-via-then-month-eq0}
use Rattle.gtd_hours_search.proofs.dates.dates_from.Goals.{then-month-eq0-via-else-month-eq0+then-month-gt-MONTHS_OF_YEAR}
use Rattle.gtd_hours_search.proofs.dates.dates_from.Goals.{then-month-eq0-via-else-month-eq0+else-month-gt-MONTHS_OF_YEAR+then-months-gt12}
use Rattle.gtd_hours_search.proofs.dates.dates_from.Goals.{then-month-eq0-via-else-month-eq0+else-month-gt-MONTHS_OF_YEAR+else-months-gt12+then-days-gt-MOST_DAYS}

-- what is refused is no stretch
pub returns-then-month-eq0 : goal.returns-then-month-eq0
returns-then-month-eq0 c first last month day few one stretch =
    let most = few-days first last c.args.months c.args.days one stretch in
    elim c.then-month-eq0.branch [
      | then-month-eq0-via-then-month-eq0 w ↦ omega (arith, month, first.in_range.0.0, w.if-month-eq0.true)
      | then-month-eq0-via-else-month-eq0+then-month-gt-MONTHS_OF_YEAR w ↦
          omega (arith, month, first.in_range.0.1, w.if-month-gt-MONTHS_OF_YEAR.true)
      | then-month-eq0-via-else-month-eq0+else-month-gt-MONTHS_OF_YEAR+then-months-gt12 w ↦
          omega (arith, few, w.if-months-gt12.true)
      | then-month-eq0-via-else-month-eq0+else-month-gt-MONTHS_OF_YEAR+else-months-gt12+then-days-gt-MOST_DAYS w ↦
          omega (arith, most, w.if-days-gt-MOST_DAYS.true)
    ]

pub returns : goal.returns
returns c first last month day few one stretch =
    let begin = c.in_ok-first.ensures.kept in
    let later : (c.month_later.result ≡ first.month + c.args.months) ⊎ (c.month_later.result + 12 ≡ first.month + c.args.months) =
    rw (sym month) c.month_later.ensures.value in
    let end = last-found first last c.args.months c.args.days c.month_later.result (c.from.result + c.args.days)
    c.in_ok-last.last.month c.in_ok-last.last.day c.month_later.ensures.range later
    (omega (arith, c.from.ensures, day)) c.in_ok-last.ensures.within c.in_ok-last.ensures.later one stretch in
    (begin.0 ∙ month, begin.1 ∙ day, end.0, end.1)
