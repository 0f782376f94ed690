-- Seconds, minutes and hours are fixed in turn: if a level leaves nothing up to the limit, no second fits; if the
-- hour comes before that of the limit, its last minute that fits is the latest.
use Rattle.std.proofs.Common.{◌/◌, refl}
use Rattle.gtd_recur.proofs.ClockSearch.{last_minute, no_second, no_minute, after_hour, before_hour, within_hour, in_hour}
use Rattle.gtd_recur.proofs.begin.latest_clock.Goals.{in_default-via-in-Some-2+else-hours-hour-2, in_default-via-in_default}
use Rattle.gtd_recur.proofs.begin.latest_clock.Goals as goal

pub returns-in_err-within : goal.returns-in_err-within
returns-in_err-within c =
    let lt = rw c.in_err-within.was at c.sixties_within.ensures in
    rw c.from_residual.ensures (no_second c.args.hour c.args.minute c.args.second c.args.limit lt)

pub returns-in_err-minutes : goal.returns-in_err-minutes
returns-in_err-minutes c =
    let within = rw c.in_ok-within.was at c.sixties_within.ensures in
    let none = rw c.in_err-minutes.was at c.latest_minute.ensures in
    rw c.from_residual-in_err-minutes.ensures (no_minute c.args.hour c.args.minute c.args.second c.args.limit
    c.in_ok-within.within within none)

pub returns-in-Some : goal.returns-in-Some
returns-in-Some c =
    let within = rw c.in_ok-within.was at c.sixties_within.ensures in
    let found = rw c.in_ok-minutes.was at c.latest_minute.ensures in
    let last = last_minute c.args.minute c.args.second c.args.limit c.in_ok-within.within c.in_ok-minutes.minutes
    c.requires.second_in within found in
    rw c.in-Some.is (after_hour c.in-Some.hour c.args.minute c.args.second c.args.limit c.in_ok-minutes.minutes c.unwrap_or.result
    c.requires.second_in c.requires.minute_in last c.if-hours-hour.true c.unwrap_or.ensures)

pub returns-in-Some-2 : goal.returns-in-Some-2
returns-in-Some-2 c =
    let within = rw c.in_ok-within.was at c.sixties_within.ensures in
    let found = rw c.in_ok-minutes.was at c.latest_minute.ensures in
    let last = last_minute c.args.minute c.args.second c.args.limit c.in_ok-within.within c.in_ok-minutes.minutes
    c.requires.second_in within found in
    rw c.in-Some-2.is (before_hour c.in-Some-2.hour c.args.minute c.args.second c.args.limit c.in_ok-minutes.minutes last
    c.if-hours-hour-2.true)

pub returns-in_default : goal.returns-in_default
returns-in_default c =
    let within = rw c.in_ok-within.was at c.sixties_within.ensures in
    let found = rw c.in_ok-minutes.was at c.latest_minute.ensures in
    let last = last_minute c.args.minute c.args.second c.args.limit c.in_ok-within.within c.in_ok-minutes.minutes
    c.requires.second_in within found in
    within_hour c.args.hour c.args.minute c.args.second c.args.limit c.in_ok-minutes.minutes c.requires.second_in last
    (elim c.in_default.branch [
      | in_default-via-in-Some-2+else-hours-hour-2 w ↦ in_hour c.args.hour w.in-Some-2.hour w.in-Some.hour
          (c.in_ok-minutes.minutes / 60) w.in-Some-2.is w.in-Some.is w.if-hours-hour-2.false w.if-hours-hour.false
      | in_default-via-in_default w ↦ rw w.in_default.is refl
    ])
