-- Of the days before, only the last one with a start counts: if it has none, or its last stretch is over, no stretch
-- from an earlier day holds the second either.
use Rattle.std.proofs.Common.{rules, arith, ◌<ℤ◌, FitsSigned, to_z-of_z, w64}
use Rattle.gtd_calendar.specs.facts.Signed.{signed_arith}
use Rattle.gtd_core.specs.Parts.{duration_parts}
use Rattle.gtd_core.specs.Seconds.{day_of_second}
use Rattle.gtd_recur.specs.Changes.{IsStretchEnd}
use Rattle.gtd_recur.proofs.CoverLemmas.{latest_before, or-none}
use Rattle.gtd_recur.proofs.LookLemmas.{held-from-last}
use Rattle.gtd_recur.proofs.cover.end_from_before.Goals as goal

pub returns-then-look-today : goal.returns-then-look-today
returns-then-look-today c =
    let look = rw (to_z-of_z c.ranges.low, to_z-of_z c.ranges.today) at c.first_look-look.ensures.look in
    let f : FitsSigned w64 c.first_look-look.result.first = search rules in
    let past = rw (to_z-of_z c.ranges.today, to_z-of_z f) at c.if-look-today.true in
    record {
      end = λ held. let before = (held-from-last c.args.start.now (duration_parts c.args.duration.now) c.args.low c.args.today
          c.first_look-look.result.first c.args.second.0 c.first_look-look.result.looked look.at c.requires.today held).0 in
          omega (arith, signed_arith, before, past);
    }

pub end_from_day-requires-clause-latest : goal.end_from_day-requires-clause-latest
end_from_day-requires-clause-latest c =
    let f : FitsSigned w64 c.first_look-look.result.first = search rules in
    let early = rw (to_z-of_z c.ranges.today, to_z-of_z f) at c.if-look-today.false in
    let today = c.requires.today in
    let before : c.first_look-look.result.first <ℤ day_of_second c.args.second.0 = omega (arith, signed_arith, early, today) in
    rw (to_z-of_z f) (latest_before c.args.start.now c.first_look-look.result.first c.args.second.0
    c.latest_begin-latest.result before c.latest_begin-latest.ensures)

pub returns : goal.returns
returns c =
    let look = rw (to_z-of_z c.ranges.low, to_z-of_z c.ranges.today) at c.first_look-look.ensures.look in
    let f : FitsSigned w64 c.first_look-look.result.first = search rules in
    let is = rw (to_z-of_z f) at c.end_from_day.ensures.end in
    record {
      end = or-none (λ e. IsStretchEnd c.args.start.now (duration_parts c.args.duration.now) c.args.second.0 e.0)
          c.end_from_day.result (λ none held. none (held-from-last c.args.start.now (duration_parts c.args.duration.now)
          c.args.low c.args.today c.first_look-look.result.first c.args.second.0 c.first_look-look.result.looked look.at
          c.requires.today held).1) is;
    }
