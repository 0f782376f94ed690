-- The faults of all rows that were taken are the table's; one row too many adds its fault behind them.
use Rattle.gtd_records.proofs.TakerFacts.{faults_read, faults_too_many}
use Rattle.gtd_records.proofs.faults.faults_of_table.Goals as goal

pub returns-in-All : goal.returns-in-All
returns-in-All c = faults_read _ _ _ c.new-2.ensures.items (rw c.in-All.is at c.in_ok-take_rows.ensures.taken)

pub returns-in_ok-push-in-TooMany : goal.returns-in_ok-push-in-TooMany
returns-in_ok-push-in-TooMany c =
    rw c.in_ok-push-in-TooMany.ensures.items
    (faults_too_many _ _ _ c.new-2.ensures.items (rw c.in-TooMany.is at c.in_ok-take_rows.ensures.taken))
