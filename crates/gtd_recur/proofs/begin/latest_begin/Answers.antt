-- A level of the clock that is not given is 0 or free, by whether a finer one is given; so the latest second with
-- the values that are held is the latest at which the start begins.
use Rattle.std.proofs.Common.{◌≡◌, ◌∙◌, is_some, inl, inr}
use Rattle.gtd_recur.proofs.ClockSearch.{held_last, or_else}
use Rattle.gtd_recur.proofs.begin.latest_begin.Goals.{then-is_some, else-is_some}
use Rattle.gtd_recur.proofs.begin.latest_begin.Goals as goal

pub returns : goal.returns
returns c =
    let minute : c.is_some.result ≡ is_some c.args.start.now.minute = c.is_some.ensures in
    let second : c.is_some-finer_than_minute.result ≡ is_some c.args.start.now.second = c.is_some-finer_than_minute.ensures in
    let finer = or_else c.is_some.result c.is_some-finer_than_minute.result c.if-is_some.finer_than_hour
    (elim c.if-is_some.branch [
      | then-is_some w ↦ inl (w.if-is_some.true, w.finer_than_hour-is ∙ w.if-is_some.true)
      | else-is_some w ↦ inr (w.if-is_some.false, w.finer_than_hour-is)
    ]) in
    held_last c.args.start.now c.if-is_some.finer_than_hour c.args.limit c.from-second.result c.latest_clock.result
    (rw (← minute, ← second) finer) (c.from-second.ensures ∙ c.unwrap_or.ensures)
    (rw (c.held-hour.ensures, c.held-minute.ensures, second) at c.latest_clock.ensures)
