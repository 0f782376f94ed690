-- Where closed seconds repeat in the horizon, so do those between them.
use Rattle.gtd_eval.specs.Cursors.{cursor_list}
use Rattle.gtd_records.proofs.PeriodFacts.{gaps-repeat}
use Rattle.gtd_records.proofs.closing_cursors.gaps_of.Goals as goal

pub repeating-requires-clause-inside : goal.repeating-requires-clause-inside
repeating-requires-clause-inside c = λ t h. ((c.in_ok-gaps.ensures.seconds t).0 h).0

pub repeating-requires-clause-repeats : goal.repeating-requires-clause-repeats
repeating-requires-clause-repeats c =
    gaps-repeat c.args.horizon c.args.period c.args.repeating.items (cursor_list c.in_ok-closed.closed)
    (cursor_list c.in_ok-gaps.gaps) c.requires.repeats c.in_ok-closed.ensures.seconds c.in_ok-gaps.ensures.seconds
