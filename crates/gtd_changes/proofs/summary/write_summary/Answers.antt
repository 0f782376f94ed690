-- The line of a summary is short, since both of its counts of seconds are at most those of a horizon.
use Rattle.std.proofs.Common.{arith, ◌≤◌, length}
use Rattle.gtd_changes.proofs.ChangeFacts.{on_ok}
use Rattle.gtd_changes.proofs.SummaryFacts.{short_summary}
use Rattle.gtd_changes.proofs.summary.write_summary.Goals as goal

pub returns-clause-short : goal.returns-clause-short
returns-clause-short c =
    let p = c.args.place.now in
    on_ok c.write_seconds.result _ (length c.write_seconds.new.line.items ≤ 100)
    (λ e. rw e (short_summary p.at.element p.at.direction p.vehicle c.in_ok-old_seconds.old_seconds
    c.in_ok-new_seconds.new_seconds
    (omega arith) (omega arith)
    (omega arith) (omega arith)))
    c.write_seconds.ensures.line
