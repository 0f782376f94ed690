-- On each way out the answer meets the definition of a read moment, and only one answer does.
use Rattle.std.proofs.Common.{rules, Result, subst, sym}
use Rattle.gtd_calendar.proofs.MomentLemmas.{parts_in-only, stamp_in-is, stamp_in-only}
use Rattle.gtd_core.specs.declared.second.Sec.{Sec}
use Rattle.gtd_calendar.specs.declared.stamp.StampFault.{StampFault}
use Rattle.gtd_calendar.specs.Read.{IsReadStamp}
use Rattle.gtd_calendar.proofs.stamp.read_stamp.Goals as goal

pub returns-in_err-year-clause-value : goal.returns-in_err-year-clause-value
returns-in_err-year-clause-value c = stamp_in-only c.args.text.now _ (search rules)

pub returns-in_err-day-clause-value : goal.returns-in_err-day-clause-value
returns-in_err-day-clause-value c = stamp_in-only c.args.text.now _ (search rules)

pub returns-in_err-number-clause-value : goal.returns-in_err-number-clause-value
returns-in_err-number-clause-value c = stamp_in-only c.args.text.now _ (search rules)

pub returns-then-number-lt-FIRST_MOMENT-clause-value : goal.returns-then-number-lt-FIRST_MOMENT-clause-value
returns-then-number-lt-FIRST_MOMENT-clause-value c = parts_in-only c.args.text.now _ (search rules)

pub returns-then-number-lt-FIRST_MOMENT-clause-second : goal.returns-then-number-lt-FIRST_MOMENT-clause-second
returns-then-number-lt-FIRST_MOMENT-clause-second c =
    subst (λ (r : Result Sec StampFault). IsReadStamp c.args.text.now r)
    (sym (returns-then-number-lt-FIRST_MOMENT-clause-value c)) (stamp_in-is c.args.text.now)

pub returns-clause-value : goal.returns-clause-value
returns-clause-value c = parts_in-only c.args.text.now _ (search rules)

pub returns-clause-second : goal.returns-clause-second
returns-clause-second c = subst (λ (r : Result Sec StampFault). IsReadStamp c.args.text.now r)
    (sym (returns-clause-value c)) (stamp_in-is c.args.text.now)
