-- A range of years comes last among the years of the draft, and all else of it stays.
use Rattle.gtd_hours_text.proofs.AddingLemmas.{one_selector, years_added}
use Rattle.gtd_hours_text.proofs.additions.with_years.Goals as goal

pub returns : goal.returns
returns c = λ y names is.
    years_added c.args.draft y c.in_ok-years.years names
    (one_selector c.args.draft.years.items c.in_ok-years.years.items y c.args.selector c.in_ok-years.ensures is)
