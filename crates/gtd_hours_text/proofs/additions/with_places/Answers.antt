-- A weekday at each place of a range comes last among the weekdays of the draft, and all else of it stays.
use Rattle.gtd_hours_text.proofs.AddingLemmas.{places_added}
use Rattle.gtd_hours_text.proofs.additions.with_places.Goals as goal

pub returns : goal.returns
returns c = places_added c.args.draft c.args.first c.args.last c.in_ok-unmoved.unmoved c.in_ok-unmoved.ensures
