-- Each form of selector goes into one list of the draft: dates among the months, places in a month among the weekdays.
use Rattle.gtd_hours_text.specs.Standing.{names_month_days, names_weekdays, names_weeks, names_years}
use Rattle.gtd_hours_text.proofs.AddingLemmas.{of_kind}
use Rattle.gtd_hours_text.proofs.additions.with_selector.Goals as goal

pub returns-in-Years : goal.returns-in-Years
returns-in-Years c =
    of_kind names_years c.args.draft c.args.selector c.with_years.result (λ y. cc) c.with_years.ensures

pub returns-in-Months : goal.returns-in-Months
returns-in-Months c =
    of_kind names_month_days c.args.draft c.args.selector c.with_month_days.result (λ y. cc) c.with_month_days.ensures

pub returns-in-Dates : goal.returns-in-Dates
returns-in-Dates c =
    of_kind names_month_days c.args.draft c.args.selector c.with_month_days-in-Dates.result (λ y. cc)
    c.with_month_days-in-Dates.ensures

pub returns-in-Dated : goal.returns-in-Dated
returns-in-Dated c =
    of_kind names_month_days c.args.draft c.args.selector c.with_month_days-in-Dated.result (λ y. cc)
    c.with_month_days-in-Dated.ensures

pub returns-in-Weeks : goal.returns-in-Weeks
returns-in-Weeks c =
    of_kind names_weeks c.args.draft c.args.selector c.with_weeks.result (λ y. cc) c.with_weeks.ensures

pub returns-in-Weekdays : goal.returns-in-Weekdays
returns-in-Weekdays c =
    of_kind names_weekdays c.args.draft c.args.selector c.with_weekdays.result (λ y. cc) c.with_weekdays.ensures

pub returns-in-Nth : goal.returns-in-Nth
returns-in-Nth c =
    of_kind names_weekdays c.args.draft c.args.selector c.with_weekdays-in-Nth.result (λ y. cc) c.with_weekdays-in-Nth.ensures

pub returns-in-NthBack : goal.returns-in-NthBack
returns-in-NthBack c =
    of_kind names_weekdays c.args.draft c.args.selector c.with_weekdays-in-NthBack.result (λ y. cc)
    c.with_weekdays-in-NthBack.ensures

pub returns-in-Moved : goal.returns-in-Moved
returns-in-Moved c =
    of_kind names_weekdays c.args.draft c.args.selector c.with_weekdays-in-Moved.result (λ y. cc) c.with_weekdays-in-Moved.ensures

pub returns-in-Moving : goal.returns-in-Moving
returns-in-Moving c =
    of_kind names_month_days c.args.draft c.args.selector c.with_month_days-in-Moving.result (λ y. cc)
    c.with_month_days-in-Moving.ensures
