-- On each way out the answer meets the definition of a read date, and only one answer does.
use Rattle.std.proofs.Common.{rules}
use Rattle.gtd_calendar.proofs.StampLemmas.{date_in-only}
use Rattle.gtd_calendar.proofs.stamp.read_date.Goals as goal

pub returns-in_err-year-clause-value : goal.returns-in_err-year-clause-value
returns-in_err-year-clause-value c = date_in-only c.args.text.now _ (search rules)

pub returns-in_err-number-clause-value : goal.returns-in_err-number-clause-value
returns-in_err-number-clause-value c = date_in-only c.args.text.now _ (search rules)

pub returns-then-number-lt-FIRST_HORIZON_DAY-clause-value : goal.returns-then-number-lt-FIRST_HORIZON_DAY-clause-value
returns-then-number-lt-FIRST_HORIZON_DAY-clause-value c =
    date_in-only c.args.text.now _ (search rules)

pub returns-clause-value : goal.returns-clause-value
returns-clause-value c = date_in-only c.args.text.now _ (search rules)
