-- Behind brackets, the weekdays that an offset may move are moved and come last among the weekdays, and none are left.
use Rattle.gtd_hours_text.proofs.AddingLemmas.{end_added}
use Rattle.gtd_hours_text.proofs.additions.with_end.Goals as goal

pub returns : goal.returns
returns c =
    end_added c.args.draft c.args.days c.in_ok-weekdays.weekdays c.new.result c.in_ok-weekdays.ensures c.new.ensures.items
