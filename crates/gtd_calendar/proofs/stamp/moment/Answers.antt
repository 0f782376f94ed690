-- If the bytes behind the date are no time of day, the text is no moment.
use Rattle.std.proofs.Common.{rules, ◌≡◌, drop}
use Rattle.gtd_calendar.proofs.MomentLemmas.{unclocked}
use Rattle.gtd_calendar.proofs.stamp.moment.Goals as goal

pub returns-in_err-hour : goal.returns-in_err-hour
returns-in_err-hour c =
    let back : c.in_ok-date.clock.now ≡ drop 10 c.args.text.now = search rules in
    rw c.from_residual-in_err-hour.ensures (unclocked c.args.text.now c.in_ok-date.clock.now back
    (rw c.in_err-hour.was at c.hms.ensures))
