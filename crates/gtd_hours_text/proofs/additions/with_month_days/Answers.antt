-- A month or date comes last among the months and dates of the draft, and all else of it stays.
use Rattle.gtd_hours_text.proofs.AddingLemmas.{one_selector, month_days_added}
use Rattle.gtd_hours_text.proofs.additions.with_month_days.Goals as goal

pub returns : goal.returns
returns c = λ y names is.
    month_days_added c.args.draft y c.in_ok-month_days.month_days names
    (one_selector c.args.draft.month_days.items c.in_ok-month_days.month_days.items y c.args.selector
    c.in_ok-month_days.ensures is)
