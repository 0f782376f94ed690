-- A range of weeks comes last among the weeks of the draft, and all else of it stays.
use Rattle.gtd_hours_text.proofs.AddingLemmas.{one_selector, weeks_added}
use Rattle.gtd_hours_text.proofs.additions.with_weeks.Goals as goal

pub returns : goal.returns
returns c = λ y names is.
    weeks_added c.args.draft y c.in_ok-weeks.weeks names
    (one_selector c.args.draft.weeks.items c.in_ok-weeks.weeks.items y c.args.selector c.in_ok-weeks.ensures is)
