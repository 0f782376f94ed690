-- A part other than the beginning of a rule stands for a piece that begins none, so it goes into the draft.
use Rattle.gtd_hours_text.proofs.BuildingLemmas.{inside_rule}
use Rattle.gtd_hours_text.proofs.builder.with_next.Goals as goal

pub returns-in_default : goal.returns-in_default
returns-in_default c =
    inside_rule c.args.so_far c.args.part c.with_more.result c.in_default.not-Rule c.with_more.ensures
