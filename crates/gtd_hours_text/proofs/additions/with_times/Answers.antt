-- A range of times comes last among the times of the draft, and all else of it stays.
use Rattle.gtd_hours_text.proofs.AddingLemmas.{range_added}
use Rattle.gtd_hours_text.proofs.additions.with_times.Goals as goal

pub returns : goal.returns
returns c = range_added c.args.draft c.args.range c.push.new.self c.in_ok-push.ensures.items
