use Rattle.gtd_hours_reading2.proofs.Stopping.{why_unread}
use Rattle.gtd_hours_reading2.proofs.laws.each_reading_goes_on.Goals as goal

pub returns : goal.returns
returns c = why_unread c.each_beginning_goes_on.ensures
