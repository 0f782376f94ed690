-- A range of weekdays, or a weekday at a place, comes last among those that an offset may move, and all else of the draft stays.
use Rattle.gtd_hours_text.proofs.AddingLemmas.{no_end, one_selector, weekdays_added}
use Rattle.gtd_hours_text.proofs.additions.with_weekdays.Goals as goal

pub returns : goal.returns
returns c = λ y names is.
    weekdays_added c.args.draft y c.in_ok-unmoved.unmoved names (no_end y c.args.selector is)
    (one_selector c.args.draft.unmoved.items c.in_ok-unmoved.unmoved.items y c.args.selector c.in_ok-unmoved.ensures is)
